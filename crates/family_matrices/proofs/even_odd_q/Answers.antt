-- `family_matrices::even_odd_q` meets its contract: S and the row's diagonal. Assumes nothing.
use mathlib.Core.Path.{ap₂, ◌∙◌}
use native.Mathlib.Omega.{arith}
use lib.Bits.{bit_xor}
use Rattle.family_matrices.proofs.MatrixLaws.{q_row_of_even_odd}
use Rattle.family_matrices.proofs.even_odd_q.Goals as goal

pub returns : goal.returns
returns c =
    let a = c.args in
    c.sum.ensures
    ∙ ap₂ bit_xor c.data_sum-s.ensures c.data_sum-diagonal.ensures
    ∙ q_row_of_even_odd a.p (omega arith) a.row
