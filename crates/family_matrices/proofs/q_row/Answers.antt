-- `family_matrices::q_row` meets its contract, family by family. Assumes nothing.
use Rattle.std.proofs.Common.{sym, ap, ◌∙◌, arith}
use Rattle.family_codes.specs.Families.{listed, family_height}
use Rattle.family_matrices.proofs.MatrixLaws.{q_row_of_liberation}
use Rattle.family_matrices.proofs.q_row.Goals as goal

pub row_diagonal_q-requires : goal.row_diagonal_q-requires
row_diagonal_q-requires c =
    let e = c.in-RowDiagonal.is in
    (sym (ap listed e) ∙ c.requires.0, omega (arith, c.requires.1, ap family_height e))

pub even_odd_q-requires : goal.even_odd_q-requires
even_odd_q-requires c =
    let e = c.in-EvenOdd.is in
    (sym (ap listed e) ∙ c.requires.0, omega (arith, c.requires.1, ap family_height e))

pub returns-in-SingleParity : goal.returns-in-SingleParity
returns-in-SingleParity c = rw c.in-SingleParity.is c.empty.ensures

pub returns-in-Liberation : goal.returns-in-Liberation
returns-in-Liberation c =
    rw c.in-Liberation.is (c.data_sum.ensures ∙ q_row_of_liberation c.args.family _ _ c.args.row c.in-Liberation.is)

pub returns-in-RowDiagonal : goal.returns-in-RowDiagonal
returns-in-RowDiagonal c = rw c.in-RowDiagonal.is c.row_diagonal_q.ensures

pub returns-in-EvenOdd : goal.returns-in-EvenOdd
returns-in-EvenOdd c = rw c.in-EvenOdd.is c.even_odd_q.ensures
