-- The invariant of `prices::states::first_bad_state`: the states of the disks passed are states.
use Rattle.std.proofs.Common.{◌≡◌, ℕ, ◌<◌, false, not}
use Rattle.prices.specs.Prices.{is_state, state_of}
use Rattle.prices.proofs.states.first_bad_state.Given as goal

abbrev pub invariant-loop-disk : goal.invariant-loop-disk
invariant-loop-disk l = (d : ℕ) → d < l.disk → not (is_state (state_of l.states d)) ≡ false
