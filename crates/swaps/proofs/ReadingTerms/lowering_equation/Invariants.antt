-- The invariant of `swaps::ReadingTerms::lowering_equation`: none of the equations passed lowers the sum.
use mathlib.Core.Path.{◌≡◌}
use mathlib.Core.Bool.{false}
use Prim.Native.Nat.{ℕ, ◌<◌}
use Rattle.bits.specs.Numerals.{numeral}
use Rattle.swaps.specs.InnerSwaps.{terms, lowers_with}
use Rattle.swaps.proofs.ReadingTerms.lowering_equation.Given as goal

abbrev pub invariant-loop-e : goal.invariant-loop-e
invariant-loop-e l = (j : ℕ) → j < l.e → lowers_with (terms l.self) (numeral l.others) (numeral l.own) l.cost j ≡ false
