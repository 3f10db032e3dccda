-- Laws of a code within the limits. Assumes nothing.
use mathlib.Core.Path.{◌≡◌, sym, ap, ◌∙◌}
use mathlib.Core.List.{List}
use native.Mathlib.Omega.{arith}
use lib.ListN.{length}
use lib.Seq.{length-take-le}
use Rattle.bits.specs.declared.BitSet.{BitSet}
use Rattle.bits.specs.Numerals.{numerals}
use Rattle.bits.proofs.NumeralLaws.{length_numerals}
use Rattle.codes.specs.Codes.{LinearCode, symbols, matrix, WithinLimits, LayoutWithin}

-- Its array is within the limits
pub layout_within : (code : LinearCode) → WithinLimits code → LayoutWithin code.layout
layout_within code within =
    record { disks_to = within.disks_to; height_from = within.height_from; height_to = within.height_to; symbols_to = omega (arith, within.symbols_to) }

-- The generator matrix has a row for each symbol
pub length_matrix : (code : LinearCode) → WithinLimits code → (rows : List BitSet) → numerals rows ≡ matrix code → length rows ≡ symbols code
length_matrix code within rows e =
    sym (length_numerals rows) ∙ ap length e ∙ length-take-le (symbols code) code.rows (omega (arith, within.rows_held, within.symbols_to))
