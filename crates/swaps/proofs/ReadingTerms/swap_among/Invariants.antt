-- The invariant of `swaps::ReadingTerms::swap_among`: no swap of the symbols passed lowers the sum.
use mathlib.Core.Path.{◌≡◌}
use mathlib.Core.Bool.{true, false}
use Prim.Native.Nat.{ℕ, ◌≤◌, ◌<◌}
use lib.ListN.{length}
use Rattle.bits.specs.BitSets.{has}
use Rattle.bits.specs.Numerals.{numeral, numerals}
use Rattle.swaps.specs.Swaps.{lowers}
use Rattle.swaps.specs.InnerSwaps.{terms}
use Rattle.swaps.proofs.ReadingTerms.swap_among.Given as goal

abbrev pub invariant-loop-target : goal.invariant-loop-target
invariant-loop-target l =
    (t : ℕ) → t < l.target → l.first ≤ t → (e : ℕ) → has (numeral l.self.wanted) t ≡ true → e < length (terms l.self).equations
    → lowers (terms l.self) (numerals l.sets) t e ≡ false
