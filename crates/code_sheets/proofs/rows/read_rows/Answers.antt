-- `code_sheets::rows::read_rows` meets its contract. Assumes nothing.
use Prim.Native.Nat.{ℕ}
use mathlib.Core.List.{List}
use mathlib.Core.Path.{◌≡◌, ◌∙◌, ap}
use native.Mathlib.Omega.{arith}
use lib.ListN.{take, drop}
use Rattle.bits.proofs.NumeralLaws.{numerals_set}
use Rattle.codes.proofs.RowLaws.{rows_more, rows_all}
use Rattle.sheets.specs.Bytes.{low_first}
use Rattle.code_sheets.specs.CodeSheets.{row_in, sheet_length}
use Rattle.code_sheets.proofs.rows.read_rows.Goals as goal

pub loop-s-init : goal.loop-s-init
loop-s-init c = (omega arith, c.empty_sets-rows.ensures)

pub row_at-requires : goal.row_at-requires
row_at-requires c = omega (arith, c.sheet_length.ensures)

-- What `row_at` answers at the place of row s is row s of the sheet
row_read : (sheet : List ℕ) (s place : ℕ) {row : ℕ} → place ≡ sheet_length s → row ≡ low_first (take 8 (drop place sheet)) → row ≡ row_in sheet s
unfolding row_in
row_read sheet s place e f = f ∙ ap (λ (at : ℕ). low_first (take 8 (drop at sheet))) e

pub loop-s-preserved : goal.loop-s-preserved
loop-s-preserved c =
    let sheet = c.args.sheet.now in
    let s = c.loop-s.s in (
      omega arith,
      numerals_set c.loop-s.rows s c.row_at.result
          ∙ rows_more (row_in sheet) c.args.symbols c.requires.0 s c.loop-s.invariant.1 (omega arith) (row_read sheet s _ c.sheet_length.ensures c.row_at.ensures),
    )

pub returns : goal.returns
returns c =
    rows_all (row_in c.args.sheet.now) c.args.symbols c.requires.0 c.loop-s.s c.loop-s.invariant.1 (omega arith)
