-- Laws of a code sheet's bytes as they are written from the front. Assumes nothing.
use mathlib.Core.Path.{◌≡◌, ap₂, ◌∙◌}
use mathlib.Core.List.{List, [], ◌∷◌}
use Prim.Native.Nat.{ℕ, ◌≤◌}
use lib.ListN.{length, take}
use lib.Seq.{sets, sets-eq}
use Rattle.codes.specs.Codes.{LinearCode, symbols, matrix}
use Rattle.sheets.specs.Buffers.{at_front, from_place}
use Rattle.sheets.proofs.BufferLaws.{at_front_append}
use Rattle.code_sheets.specs.CodeSheets.{code_sheet, row_bytes}

-- Six stores from the front
pub head_stored : (code : LinearCode) (buffer : List ℕ) (count : ℕ) → count ≡ symbols code → 6 ≤ length buffer
    → sets buffer 0 (4 ∷ 1 ∷ code.layout.disks ∷ code.layout.height ∷ code.data_symbols ∷ count ∷ [])
    ≡ at_front (take 6 (code_sheet code)) buffer
unfolding code_sheet
head_stored code buffer count e h = rw e (sets-eq (take 6 (code_sheet code)) buffer 0 h)

-- The whole sheet: the head, then the rows behind it
pub sheet_stored : (code : LinearCode) (buffer headed new rows : List ℕ) → rows ≡ matrix code
    → headed ≡ at_front (take 6 (code_sheet code)) buffer → new ≡ from_place 6 (row_bytes rows) headed → new ≡ at_front (code_sheet code) buffer
unfolding code_sheet
sheet_stored code buffer headed new rows e f g =
    g
    ∙ ap₂ (λ (r b : List ℕ). from_place 6 (row_bytes r) b) e f
    ∙ at_front_append (take 6 (code_sheet code)) (row_bytes (matrix code)) buffer
