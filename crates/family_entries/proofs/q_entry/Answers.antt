-- `family_entries::q_entry` meets its contract, family by family. Assumes nothing.
use Rattle.std.proofs.Common.{refl, sym, ap, ◌∙◌, inl, inr, arith}
use Rattle.family_codes.specs.declared.Family.{Family}
use Rattle.family_codes.specs.Families.{listed, data_disks, family_height, entry, diagonal_entry}
use Rattle.family_codes.proofs.FamilyLaws.{row_diagonal_bounds, even_odd_bounds}
use Rattle.family_entries.specs.InnerEntries.{q_entry}
use Rattle.family_entries.proofs.q_entry.Goals as goal

pub liberation_entry-requires : goal.liberation_entry-requires
liberation_entry-requires c =
    let e = c.in-Liberation.is in
    (sym (ap listed e) ∙ c.requires.0, refl, omega (arith, c.requires.1, ap family_height e), omega (arith, c.requires.2, ap data_disks e))

pub diagonal_entry-requires : goal.diagonal_entry-requires
diagonal_entry-requires c =
    let same = c.in-RowDiagonal.family-is in
    let is_listed = ap listed same ∙ c.requires.0 in
    let same_height = ap family_height same in
    let same_disks = ap data_disks same in
    elim c.in-RowDiagonal.is [
      | inl e ↦
          let bounds = row_diagonal_bounds _ (sym (ap listed e) ∙ c.requires.0) in
          let height = ap family_height e in
          let disks = ap data_disks e in
          (is_listed, omega (arith, bounds, same_height, height), omega (arith, bounds, c.requires.1, height), omega (arith, bounds, c.requires.2, disks), omega (arith, c.requires.2, same_disks))
      | inr e ↦
          let bounds = even_odd_bounds _ (sym (ap listed e) ∙ c.requires.0) in
          let height = ap family_height e in
          let disks = ap data_disks e in
          (is_listed, omega (arith, bounds, same_height, height), omega (arith, bounds, c.requires.1, height), omega (arith, bounds, c.requires.2, disks), omega (arith, c.requires.2, same_disks))
    ]

pub returns-in-SingleParity : goal.returns-in-SingleParity
returns-in-SingleParity c = rw c.in-SingleParity.is c.empty.ensures

pub returns-in-Liberation : goal.returns-in-Liberation
returns-in-Liberation c = rw c.in-Liberation.is c.liberation_entry.ensures

pub returns-in-RowDiagonal : goal.returns-in-RowDiagonal
returns-in-RowDiagonal c =
    let p = c.in-RowDiagonal.p in
    let made = c.diagonal_entry.ensures ∙ ap (λ (f : Family). diagonal_entry (entry f) p c.args.row c.args.disk) c.in-RowDiagonal.family-is in
    elim c.in-RowDiagonal.is [
      | inl e ↦ made ∙ ap (λ (f : Family). diagonal_entry (entry f) p c.args.row c.args.disk) e ∙ sym (ap (λ (f : Family). q_entry f c.args.row c.args.disk) e)
      | inr e ↦ made ∙ ap (λ (f : Family). diagonal_entry (entry f) p c.args.row c.args.disk) e ∙ sym (ap (λ (f : Family). q_entry f c.args.row c.args.disk) e)
    ]
