-- `family_matrices::row_of` meets its contract: an identity row on a data disk, else a parity row. Assumes nothing.
use mathlib.Core.Path.{◌≡◌, ap, ap₂, ◌∙◌}
use mathlib.Core.Logic.{◌≢◌}
use Prim.Native.Nat.{ℕ, ◌-◌}
use native.Mathlib.Omega.{arith}
use Rattle.codes.specs.Layouts.{first_symbol, disk_of}
use Rattle.codes.specs.declared.Layout.{Layout}
use Rattle.family_codes.specs.Families.{parity_row}
use Rattle.family_entries.specs.InnerEntries.{number_of}
use Rattle.family_entries.specs.declared.Parity.{Parity}
use Rattle.family_codes.proofs.FamilyLaws.{layout_bounds, disk_of_symbol, first_of_symbol, row_of_symbol}
use Rattle.family_matrices.proofs.MatrixLaws.{parity_row_of_q, family_row_of_data_disk, family_row_of_parity_disk}
use Rattle.family_matrices.proofs.row_of.Goals as goal
use Rattle.family_matrices.proofs.row_of.Goals.{then-disk-data_disks-2, else-disk-data_disks-2}

pub layout_of-layout-requires : goal.layout_of-layout-requires
layout_of-layout-requires c = c.requires.0

pub data_disks_of-data_disks-requires : goal.data_disks_of-data_disks-requires
data_disks_of-data_disks-requires c = c.requires.0

pub disk_of-disk-requires : goal.disk_of-disk-requires
disk_of-disk-requires c =
    (layout_bounds c.args.family c.requires.0 _ c.layout_of-layout.ensures).height_from

pub first_symbol-requires : goal.first_symbol-requires
first_symbol-requires c =
    let b = layout_bounds c.args.family c.requires.0 _ c.layout_of-layout.ensures in
    let on_array = disk_of_symbol c.args.family c.requires.0 c.args.symbol c.requires.1 in
    let disks = ap (λ (l : Layout). l.disks) c.layout_of-layout.ensures in
    (omega (arith, (c.disk_of-disk.ensures ∙ ap (λ (l : Layout). disk_of l c.args.symbol) c.layout_of-layout.ensures), on_array, disks), omega arith, omega arith)

pub overflow_sub-row : goal.overflow_sub-row
overflow_sub-row c =
    omega (arith, (c.first_symbol.ensures ∙ ap₂ first_symbol c.layout_of-layout.ensures (c.disk_of-disk.ensures ∙ ap (λ (l : Layout). disk_of l c.args.symbol) c.layout_of-layout.ensures)), first_of_symbol c.args.family c.requires.0 c.args.symbol)

pub identity_row-requires : goal.identity_row-requires
identity_row-requires c =
    let row = row_of_symbol c.args.family c.requires.0 c.args.symbol in
    (c.requires.0, omega (arith, c.if-disk-data_disks.true, c.data_disks_of-data_disks.ensures), omega (arith, row, (c.first_symbol.ensures ∙ ap₂ first_symbol c.layout_of-layout.ensures (c.disk_of-disk.ensures ∙ ap (λ (l : Layout). disk_of l c.args.symbol) c.layout_of-layout.ensures))))

pub returns-then-disk-data_disks : goal.returns-then-disk-data_disks
returns-then-disk-data_disks c =
    let a = c.args in
    c.identity_row.ensures
    ∙ family_row_of_data_disk a.family a.symbol _ _ _ c.data_disks_of-data_disks.ensures (c.disk_of-disk.ensures ∙ ap (λ (l : Layout). disk_of l c.args.symbol) c.layout_of-layout.ensures)
    (ap (λ (first : ℕ). a.symbol - first) (c.first_symbol.ensures ∙ ap₂ first_symbol c.layout_of-layout.ensures (c.disk_of-disk.ensures ∙ ap (λ (l : Layout). disk_of l c.args.symbol) c.layout_of-layout.ensures))) c.if-disk-data_disks.true

pub parity_row-requires : goal.parity_row-requires
parity_row-requires c =
    let row = row_of_symbol c.args.family c.requires.0 c.args.symbol in
    (c.requires.0, omega (arith, row, (c.first_symbol.ensures ∙ ap₂ first_symbol c.layout_of-layout.ensures (c.disk_of-disk.ensures ∙ ap (λ (l : Layout). disk_of l c.args.symbol) c.layout_of-layout.ensures))))

pub returns : goal.returns
returns c =
    let a = c.args in
    let on_parity =
    family_row_of_parity_disk a.family a.symbol _ _ _ c.data_disks_of-data_disks.ensures (c.disk_of-disk.ensures ∙ ap (λ (l : Layout). disk_of l c.args.symbol) c.layout_of-layout.ensures)
    (ap (λ (first : ℕ). a.symbol - first) (c.first_symbol.ensures ∙ ap₂ first_symbol c.layout_of-layout.ensures (c.disk_of-disk.ensures ∙ ap (λ (l : Layout). disk_of l c.args.symbol) c.layout_of-layout.ensures))) c.if-disk-data_disks.false in
    let behind = c.disk_of-disk.result - c.data_disks_of-data_disks.result in
    let row = a.symbol - c.first_symbol.result in
    let by_parity = λ (parity : Parity). parity_row a.family (number_of parity) row in
    elim c.if-disk-data_disks-2.branch [
      | then-disk-data_disks-2 w ↦
          let none : 0 ≡ behind = omega (arith, w.if-disk-data_disks-2.true) in
          c.parity_row.ensures ∙ ap by_parity w.parity-is ∙ ap (λ (n : ℕ). parity_row a.family n row) none ∙ on_parity
      | else-disk-data_disks-2 w ↦
          let some : behind ≢ 0 = omega (arith, w.if-disk-data_disks-2.false, c.if-disk-data_disks.false) in
          c.parity_row.ensures ∙ ap by_parity w.parity-is ∙ parity_row_of_q a.family behind row some ∙ on_parity
    ]
