-- `listed::data_disks_of` meets its contract, family by family. Assumes nothing.
use mathlib.Core.Path.{sym, ap, ◌∙◌}
use native.Mathlib.Omega.{arith}
use Rattle.family_codes.specs.Families.{listed, data_disks}
use Rattle.family_codes.proofs.FamilyLaws.{row_diagonal_bounds}
use Rattle.family_codes.proofs.listed.data_disks_of.Goals as goal

pub overflow_sub-result : goal.overflow_sub-result
overflow_sub-result c = omega (arith, row_diagonal_bounds _ (sym (ap listed c.in-RowDiagonal.is) ∙ c.requires))

pub returns-in-RowDiagonal : goal.returns-in-RowDiagonal
returns-in-RowDiagonal c = sym (ap data_disks c.in-RowDiagonal.is)
