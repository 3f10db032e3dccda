-- `family_entries::identity_row` meets its contract: the identity row of a data symbol has its one bit. Assumes nothing.
use mathlib.Core.Path.{ap, ◌∙◌}
use native.Mathlib.Omega.{arith}
use Rattle.codes.specs.Layouts.{first_symbol}
use Rattle.codes.specs.declared.Layout.{Layout}
use Rattle.family_codes.proofs.FamilyLaws.{layout_bounds, data_symbol_fits}
use Rattle.family_entries.proofs.EntryLaws.{entry_made}
use Rattle.family_entries.proofs.identity_row.Goals as goal

pub layout_of-layout-requires : goal.layout_of-layout-requires
layout_of-layout-requires c = c.requires.0

pub first_symbol-requires : goal.first_symbol-requires
first_symbol-requires c =
    let b = layout_bounds c.args.family c.requires.0 _ c.layout_of-layout.ensures in
    (omega (arith, c.requires.1), omega arith, omega arith)

pub overflow_add-symbol : goal.overflow_add-symbol
overflow_add-symbol c = omega (
  arith,
  data_symbol_fits c.args.family c.requires.0 c.args.disk c.args.row c.requires.1 c.requires.2,
  c.first_symbol.ensures ∙ ap (λ (l : Layout). first_symbol l c.args.disk) c.layout_of-layout.ensures,
)

pub with-requires : goal.with-requires
with-requires c = omega (
  arith,
  data_symbol_fits c.args.family c.requires.0 c.args.disk c.args.row c.requires.1 c.requires.2,
  c.first_symbol.ensures ∙ ap (λ (l : Layout). first_symbol l c.args.disk) c.layout_of-layout.ensures,
)

pub returns : goal.returns
returns c =
    let a = c.args in
    c.with.ensures
    ∙ entry_made a.family _ a.disk a.row _ _ c.layout_of-layout.ensures c.first_symbol.ensures c.empty.ensures
