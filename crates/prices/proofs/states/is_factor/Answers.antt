-- `prices::states::is_factor` meets its contract. Assumes nothing.
use Rattle.std.proofs.Common.{◌∙◌}
use Rattle.prices.proofs.PriceLaws.{factor_from, no_factor_below}
use Rattle.prices.proofs.states.is_factor.Goals as goal

pub returns-then-x : goal.returns-then-x
returns-then-x c = factor_from c.args.x c.if-x.true

pub returns-else-x : goal.returns-else-x
returns-else-x c = c.if-x.false ∙ no_factor_below c.args.x c.if-x.false
