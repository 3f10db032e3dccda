-- `prices::states::is_price` meets its contract. Assumes nothing.
use Rattle.std.proofs.Common.{◌∙◌}
use Rattle.prices.proofs.PriceLaws.{price_from, no_price_below}
use Rattle.prices.proofs.states.is_price.Goals as goal

pub returns-then-x : goal.returns-then-x
returns-then-x c = price_from c.args.x c.if-x.true

pub returns-else-x : goal.returns-else-x
returns-else-x c = c.if-x.false ∙ no_price_below c.args.x c.if-x.false
