-- `family_matrices::row_diagonal_q` meets its contract: the sum over the data disks, and the row parity disk's row where the diagonal has one. Assumes nothing.
use mathlib.Core.Path.{ap₂, ◌∙◌}
use lib.Bits.{bit_xor}
use Rattle.family_matrices.proofs.MatrixLaws.{row_diagonal_with_parity, row_diagonal_without_parity}
use Rattle.family_matrices.proofs.row_diagonal_q.Goals as goal

pub returns-then-p-from : goal.returns-then-p-from
returns-then-p-from c =
    c.data_sum-of_data.ensures ∙ row_diagonal_without_parity c.args.p c.args.row c.requires.1 c.if-p-from.true

pub returns : goal.returns
returns c =
    c.sum.ensures
    ∙ ap₂ bit_xor c.data_sum-of_data.ensures c.data_sum.ensures
    ∙ row_diagonal_with_parity c.args.p c.args.row c.requires.1 c.if-p-from.false
