-- The invariant of `lists::first_bad`: no entry passed is bad.
use Rattle.std.proofs.Common.{◌≡◌, ℕ, ◌<◌, false, not, ◌||◌, get_or}
use Rattle.bits.specs.BitSets.{has}
use Rattle.bits.specs.Numerals.{numeral}
use Rattle.lists.specs.Lists.{not_rising}
use Rattle.lists.proofs.first_bad.Given as goal

abbrev pub invariant-loop-i : goal.invariant-loop-i
invariant-loop-i l = (j : ℕ) → j < l.i → (not (has (numeral l.allowed) (get_or l.list j 0)) || not_rising l.list j) ≡ false
