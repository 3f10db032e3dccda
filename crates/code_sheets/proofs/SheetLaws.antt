-- Laws of a code sheet's bytes: lengths, and where each row stands. Assumes nothing.
use mathlib.Core.Path.{◌≡◌, sym, ap, ◌∙◌}
use mathlib.Core.List.{List}
use Prim.Native.Nat.{ℕ, ◌*◌, ◌^◌, ◌≤◌, ◌<◌}
use native.Mathlib.Omega.{arith}
use lib.ListN.{length, take, get_or}
use lib.Seq.{drop-drop, get_or-take, length-take-le}
use Rattle.codes.specs.Codes.{LinearCode, symbols, matrix}
use Rattle.sheets.specs.Bytes.{low_bytes, low_first}
use Rattle.sheets.proofs.ByteLaws.{low_first_low_bytes}
use Rattle.code_sheets.specs.CodeSheets.{row_bytes, sheet_length, row_in, code_sheet}
use Rattle.code_sheets.proofs.RowLaws.{length_row_bytes, row_bytes_at}

-- A sheet has 6 bytes and 8 for each row
pub length_code_sheet : (code : LinearCode) → symbols code ≤ length code.rows → length (code_sheet code) ≡ sheet_length (symbols code)
unfolding code_sheet
length_code_sheet code h =
    let rows : length (row_bytes (matrix code)) ≡ 8 * symbols code =
    length_row_bytes (matrix code) ∙ ap (λ (n : ℕ). 8 * n) (length-take-le (symbols code) code.rows h) in
    omega arith

-- Row s of a code's sheet is row s of the code
pub row_in_code_sheet : (code : LinearCode) (s : ℕ) → symbols code ≤ length code.rows → s < symbols code → get_or code.rows s 0 < 2 ^ 64
    → row_in (code_sheet code) s ≡ get_or code.rows s 0
unfolding row_in code_sheet
row_in_code_sheet code s h l b =
    let held : length (matrix code) ≡ symbols code = length-take-le (symbols code) code.rows h in
    ap (λ (bytes : List ℕ). low_first (take 8 bytes)) (sym (drop-drop (8 * s) 6 (code_sheet code)))
    ∙ ap low_first (row_bytes_at (matrix code) s (omega arith))
    ∙ ap (λ (row : ℕ). low_first (low_bytes 8 row)) (get_or-take (symbols code) code.rows s 0 l)
    ∙ low_first_low_bytes 8 (get_or code.rows s 0) b
