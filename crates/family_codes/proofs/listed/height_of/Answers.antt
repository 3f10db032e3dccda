-- `listed::height_of` meets its contract, family by family. Assumes nothing.
use Rattle.std.proofs.Common.{sym, ap, ◌∙◌, inl, inr, arith}
use Rattle.family_codes.specs.Families.{listed, family_height}
use Rattle.family_codes.proofs.FamilyLaws.{row_diagonal_bounds, even_odd_bounds}
use Rattle.family_codes.proofs.listed.height_of.Goals as goal

pub overflow_sub-result : goal.overflow_sub-result
overflow_sub-result c =
    elim c.in-RowDiagonal.is [
      | inl e ↦ omega (arith, row_diagonal_bounds _ (sym (ap listed e) ∙ c.requires))
      | inr e ↦ omega (arith, even_odd_bounds _ (sym (ap listed e) ∙ c.requires))
    ]

pub returns-in-RowDiagonal : goal.returns-in-RowDiagonal
returns-in-RowDiagonal c = elim c.in-RowDiagonal.is [ inl e ↦ sym (ap family_height e) | inr e ↦ sym (ap family_height e) ]
