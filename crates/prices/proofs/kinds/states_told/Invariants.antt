-- The invariant of `prices::kinds::states_told`: the states of the disks passed are stored.
use Rattle.std.proofs.Common.{◌≡◌, ℕ, ◌<◌, length}
use Rattle.prices.specs.Prices.{state_of}
use Rattle.prices.specs.Kinds.{state_told}
use Rattle.prices.proofs.kinds.states_told.Given as goal

abbrev pub invariant-loop-disk : goal.invariant-loop-disk
invariant-loop-disk l = (length l.states ≡ 64) × ((d : ℕ) → d < l.disk → state_of l.states d ≡ state_told l.kinds l.prices l.factors d)
