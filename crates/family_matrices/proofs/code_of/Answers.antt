-- `family_matrices::code_of` meets its contract. Assumes nothing.
use Rattle.std.proofs.Common.{◌≡◌, ◌≤◌, sym, ap, ◌∙◌, subst}
use mathlib.Core.Path.{ap₂}
use native.Mathlib.Omega.{arith}
use Rattle.bits.proofs.NumeralLaws.{numerals_set}
use Rattle.codes.specs.Layouts.{symbols_of, first_symbol}
use Rattle.codes.proofs.RowLaws.{rows_more, rows_all}
use Rattle.bits.specs.Numerals.{set_width, numerals}
use Rattle.codes.specs.Codes.{LinearCode, WithinLimits}
use Rattle.family_codes.specs.Families.{family_layout, family_row, family_code}
use Rattle.family_codes.proofs.LimitLaws.{family_code_within_limits}
use Rattle.family_codes.proofs.FamilyLaws.{layout_bounds, symbols_to}
use Rattle.family_matrices.proofs.MatrixLaws.{family_code_of_parts}
use Rattle.family_matrices.proofs.code_of.Goals as goal
use Rattle.family_matrices.proofs.code_of.Goals.{After-symbols-symbols, After-loop-symbol}

pub layout_of-layout-requires : goal.layout_of-layout-requires
layout_of-layout-requires c = c.requires

pub symbols-symbols-requires : goal.symbols-symbols-requires
symbols-symbols-requires c =
    let b = layout_bounds c.args.family c.requires _ c.layout_of-layout.ensures in
    (omega arith, omega arith)

pub data_disks_of-requires : goal.data_disks_of-requires
data_disks_of-requires c = c.requires

pub first_symbol-data_symbols-requires : goal.first_symbol-data_symbols-requires
first_symbol-data_symbols-requires c =
    let b = layout_bounds c.args.family c.requires _ c.layout_of-layout.ensures in
    (omega (arith, c.data_disks_of.ensures), omega arith, omega arith)

-- The symbols are the family's, no more than a code has rows
counted : (c : After-symbols-symbols) → (c.symbols-symbols.result ≡ symbols_of (family_layout c.args.family)) × (c.symbols-symbols.result ≤ set_width)
counted c =
    let same = c.symbols-symbols.ensures ∙ ap symbols_of c.layout_of-layout.ensures in
    (same, omega (arith, same, symbols_to c.args.family c.requires))

pub loop-symbol-init : goal.loop-symbol-init
loop-symbol-init c = c.empty_sets-rows.ensures

pub row_of-requires : goal.row_of-requires
row_of-requires c = (c.requires, omega (arith, (counted (goal.at.row_of-requires c).After-symbols-symbols).0))

pub offset_bounds-rows-symbol : goal.offset_bounds-rows-symbol
offset_bounds-rows-symbol c = omega (arith, (counted (goal.at.offset_bounds-rows-symbol c).After-symbols-symbols).1)

pub bounds-rows-symbol : goal.bounds-rows-symbol
bounds-rows-symbol c = omega (arith, (counted (goal.at.bounds-rows-symbol c).After-symbols-symbols).1)

pub loop-symbol-preserved : goal.loop-symbol-preserved
loop-symbol-preserved c =
    let rows = c.loop-symbol.rows in
    let symbol = c.loop-symbol.symbol in
    numerals_set rows symbol c.row_of.result
    ∙ rows_more (family_row c.args.family) _ (counted (goal.at.loop-symbol-preserved c).After-symbols-symbols).1 symbol c.loop-symbol.invariant (omega arith) c.row_of.ensures

-- The parts are the family's code
made : (c : After-loop-symbol) → ◌≡◌ {A = LinearCode} (record { layout = c.layout_of-layout.result; data_symbols = c.first_symbol-data_symbols.result; rows = numerals c.loop-symbol.rows }) (family_code c.args.family)
made c =
    let end = c.loop-symbol in
    let data_symbols = c.first_symbol-data_symbols.ensures ∙ ap₂ first_symbol c.layout_of-layout.ensures c.data_disks_of.ensures in
    family_code_of_parts c.args.family _ _ _ _ c.layout_of-layout.ensures c.symbols-symbols.ensures data_symbols
    (rows_all (family_row c.args.family) _ (counted (goal.at.After-loop-symbol c).After-symbols-symbols).1 end.symbol end.invariant (omega arith))

pub invariant_of-result : goal.invariant_of-result
invariant_of-result c = record { within = subst WithinLimits (sym (made (goal.at.invariant_of-result c).After-loop-symbol)) (family_code_within_limits c.args.family c.requires) }

pub returns : goal.returns
returns c = made (goal.at.returns c).After-loop-symbol
