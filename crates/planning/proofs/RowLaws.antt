-- Laws of the rows that a code hands over: its generator matrix. Assumes nothing.
use mathlib.Core.Path.{◌≡◌, sym, ap, ◌∙◌}
use mathlib.Core.List.{List}
use Prim.Native.Nat.{ℕ, ◌≤◌}
use native.Mathlib.Omega.{arith}
use lib.ListN.{length}
use lib.Seq.{length-take-le}
use Rattle.bits.specs.Numerals.{set_width, numerals}
use Rattle.bits.specs.declared.BitSet.{BitSet}
use Rattle.bits.proofs.NumeralLaws.{length_numerals}
use Rattle.codes.specs.Codes.{LinearCode, symbols, matrix, WithinLimits}

-- There is a row for each symbol
pub one_each : (code : LinearCode) → WithinLimits code → (rows : List BitSet) → numerals rows ≡ matrix code → length rows ≡ symbols code
one_each code within rows rows_are =
    sym (length_numerals rows) ∙ ap (λ (l : List ℕ). length l) rows_are
    ∙ length-take-le (symbols code) code.rows (omega (arith, within.rows_held, within.symbols_to))

-- No more than a set can have
pub few : (code : LinearCode) → WithinLimits code → (rows : List BitSet) → numerals rows ≡ matrix code → length rows ≤ set_width
few code within rows rows_are = omega (arith, one_each code within rows rows_are, within.symbols_to)
