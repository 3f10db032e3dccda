-- `prices::states::is_state` meets its contract. Assumes nothing.
use Rattle.std.proofs.Common.{sym, ◌∙◌}
use Rattle.prices.proofs.PriceLaws.{and_taken, and_left_out}
use Rattle.prices.proofs.states.is_state.Goals as goal

pub returns-in-Idle : goal.returns-in-Idle
returns-in-Idle c = rw c.in-Idle.is c.is_price.ensures

pub returns-then-is_price : goal.returns-then-is_price
returns-then-is_price c =
    let price = c.is_price-in-Busy in
    rw c.in-Busy.is (and_taken _ _ _ (sym price.ensures ∙ c.if-is_price.true) c.is_factor.ensures)

pub returns-else-is_price : goal.returns-else-is_price
returns-else-is_price c =
    let price = c.is_price-in-Busy in
    rw c.in-Busy.is (price.ensures ∙ and_left_out _ _ (sym price.ensures ∙ c.if-is_price.false))
