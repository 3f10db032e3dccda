-- `family_matrices::parity_row` meets its contract: P, then Q. Assumes nothing.
use Rattle.std.proofs.Common.{◌∙◌}
use Rattle.family_codes.specs.Families.{parity_row}
use Rattle.family_matrices.proofs.MatrixLaws.{parity_row_of_p}
use Rattle.family_matrices.proofs.parity_row.Goals as goal

pub returns-in-P : goal.returns-in-P
returns-in-P c = rw c.in-P.is (c.data_sum.ensures ∙ parity_row_of_p c.args.family c.args.row)

pub returns-in-Q : goal.returns-in-Q
unfolding parity_row
returns-in-Q c = rw c.in-Q.is c.q_row.ensures
