-- The invariant of `family_matrices::data_sum`: the sum over the disks passed.
use Rattle.std.proofs.Common.{◌≡◌}
use Rattle.bits.specs.Numerals.{numeral}
use Rattle.family_codes.specs.Families.{sum_over}
use Rattle.family_entries.specs.InnerEntries.{number_of, entry_of}
use Rattle.family_matrices.proofs.data_sum.Given as goal

abbrev pub invariant-loop-disk : goal.invariant-loop-disk
invariant-loop-disk l = numeral l.total ≡ sum_over l.disk (entry_of l.family (number_of l.parity) l.row)
