-- The invariant of `family_matrices::code_of`: the rows of the symbols passed are stored, the others are empty.
use Rattle.std.proofs.Common.{◌≡◌}
use Rattle.bits.specs.Lists.{tabulate}
use Rattle.bits.specs.Numerals.{numerals}
use Rattle.bits.proofs.PaddedLaws.{stored_to}
use Rattle.family_codes.specs.Families.{family_row}
use Rattle.family_matrices.proofs.code_of.Given as goal

abbrev pub invariant-loop-symbol : goal.invariant-loop-symbol
invariant-loop-symbol l = numerals l.rows ≡ stored_to (tabulate l.symbols (family_row l.family)) l.symbol
