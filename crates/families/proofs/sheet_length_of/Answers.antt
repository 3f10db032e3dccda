-- `sheet_length_of` meets its contract: the length of a sheet of the family's symbols. Assumes nothing.
use mathlib.Core.Path.{◌≡◌, sym, ap, ◌∙◌}
use native.Mathlib.Omega.{arith}
use Rattle.codes.specs.Layouts.{symbols_of}
use Rattle.family_codes.specs.Families.{family_layout}
use Rattle.family_codes.proofs.FamilyLaws.{layout_bounds, symbols_to}
use Rattle.families.proofs.AnswerLaws.{length_family_sheet}
use Rattle.code_sheets.specs.CodeSheets.{sheet_length}
use Rattle.families.proofs.sheet_length_of.Goals as goal

pub layout_of-layout-requires : goal.layout_of-layout-requires
layout_of-layout-requires c = c.requires

pub symbols-requires : goal.symbols-requires
symbols-requires c =
    let b = layout_bounds c.args.family c.requires _ c.layout_of-layout.ensures in
    (omega arith, omega arith)

pub sheet_length-requires : goal.sheet_length-requires
sheet_length-requires c =
    let symbols_are : c.symbols.result ≡ symbols_of (family_layout c.args.family) = c.symbols.ensures ∙ ap symbols_of c.layout_of-layout.ensures in
    omega (arith, symbols_are, symbols_to c.args.family c.requires)

pub returns : goal.returns
returns c =
    let symbols_are : c.symbols.result ≡ symbols_of (family_layout c.args.family) = c.symbols.ensures ∙ ap symbols_of c.layout_of-layout.ensures in
    c.sheet_length.ensures ∙ ap sheet_length (symbols_are) ∙ sym (length_family_sheet c.args.family c.requires)
