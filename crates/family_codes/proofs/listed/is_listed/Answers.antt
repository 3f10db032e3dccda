-- `listed::is_listed` meets its contract, family by family. Assumes nothing.
use Rattle.std.proofs.Common.{sym, ap, ◌∙◌, inl, inr}
use Rattle.family_codes.specs.Families.{listed}
use Rattle.family_codes.proofs.listed.is_listed.Goals as goal

pub returns-in-SingleParity : goal.returns-in-SingleParity
returns-in-SingleParity c = c.single_parity_listed.ensures ∙ sym (ap listed c.in-SingleParity.is)

pub returns-in-Liberation : goal.returns-in-Liberation
returns-in-Liberation c = c.liberation_listed.ensures ∙ sym (ap listed c.in-Liberation.is)

pub returns-in-RowDiagonal : goal.returns-in-RowDiagonal
unfolding listed
returns-in-RowDiagonal c =
    elim c.in-RowDiagonal.is [ inl e ↦ c.three_five_or_seven.ensures ∙ sym (ap listed e) | inr e ↦ c.three_five_or_seven.ensures ∙ sym (ap listed e) ]
