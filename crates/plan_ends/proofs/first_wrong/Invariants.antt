-- The invariant of `plan_ends::first_wrong`: each wanted symbol passed ends right.
use Rattle.std.proofs.Common.{◌≡◌, false, not, ◌&&◌, ℕ, ◌<◌, eqb, get_or}
use Rattle.bits.specs.BitSets.{has}
use Rattle.bits.specs.Numerals.{numeral, numerals}
use Rattle.plan_ends.proofs.first_wrong.Given as goal

abbrev pub invariant-loop-s : goal.invariant-loop-s
invariant-loop-s l = (j : ℕ) → j < l.s → (has (numeral l.wanted) j && not (eqb (get_or (numerals l.rows) j 0) (get_or (numerals l.own) j 0))) ≡ false
