-- Laws of a code sheet's rows: their bytes, where each stands, and how they are written one by one. Assumes nothing.
use mathlib.Core.Path.{◌≡◌, refl, sym, ap, ap₂, ◌∙◌}
use mathlib.Core.List.{List, [], ◌∷◌, ◌++◌, append_assoc, append-nil}
use Prim.Native.Nat.{ℕ, zero, suc, ◌+◌, ◌*◌, ◌/◌, ◌%◌, ◌^◌, ◌≤◌, ◌<◌}
use native.Mathlib.Nat.{div-one, not-suc-le-zero, le_of_suc-le-suc}
use native.Mathlib.Numerals.{add-one}
use native.Mathlib.Omega.{arith}
use lib.ListN.{length, take, drop, get_or, length-append}
use lib.Pow.{shr-shr}
use lib.Seq.{take_at, take-suc, drop-append-add, drop-nil, drop-cons, length-take-le}
use Rattle.sheets.specs.Buffers.{from_place}
use Rattle.sheets.specs.Bytes.{low_bytes}
use Rattle.sheets.proofs.BufferLaws.{from_place_append}
use Rattle.sheets.proofs.ByteLaws.{length_low_bytes}
use Rattle.code_sheets.specs.CodeSheets.{row_bytes, sheet_length}

-- ------------------------------------------------------------------
-- A row

-- Byte i of a number
pub get_or_low_bytes : (size number i : ℕ) → i < size → get_or (low_bytes size number) i 0 ≡ number / 2 ^ (8 * i) % 256
unfolding low_bytes
get_or_low_bytes zero number i l = absurd (not-suc-le-zero l)
get_or_low_bytes (suc size) number zero l = sym (ap (λ (n : ℕ). n % 256) (div-one number))
get_or_low_bytes (suc size) number (suc i) l =
    let powers : 8 + 8 * i ≡ 8 * suc i = omega arith in
    get_or_low_bytes size (number / 256) i (le_of_suc-le-suc l)
    ∙ ap (λ (n : ℕ). n % 256) (shr-shr number 8 (8 * i) ∙ ap (λ (n : ℕ). number / 2 ^ n) powers)

-- ------------------------------------------------------------------
-- Rows of 8 bytes

-- The bytes of rows one after the other
pub row_bytes_append : (rows more : List ℕ) → row_bytes (rows ++ more) ≡ row_bytes rows ++ row_bytes more
unfolding row_bytes
row_bytes_append [] more = refl
row_bytes_append (row ∷ rows) more =
    ap (λ (b : List ℕ). low_bytes 8 row ++ b) (row_bytes_append rows more)
    ∙ sym (append_assoc (low_bytes 8 row) (row_bytes rows) (row_bytes more))

-- Each row has 8 bytes
pub length_row_bytes : (rows : List ℕ) → length (row_bytes rows) ≡ 8 * length rows
unfolding row_bytes
length_row_bytes [] = refl
length_row_bytes (row ∷ rows) =
    length-append (low_bytes 8 row) (row_bytes rows)
    ∙ ap₂ (λ (a b : ℕ). a + b) (length_low_bytes 8 row) (length_row_bytes rows)
    ∙ omega arith

-- Row s begins 8 × s bytes behind the first
drop_row_bytes : (s : ℕ) (rows : List ℕ) → drop (8 * s) (row_bytes rows) ≡ row_bytes (drop s rows)
unfolding row_bytes
drop_row_bytes zero rows = refl
drop_row_bytes (suc s) [] = drop-nil (8 * suc s)
drop_row_bytes (suc s) (row ∷ rows) =
    let next : 8 * suc s ≡ length (low_bytes 8 row) + 8 * s = omega (arith, length_low_bytes 8 row) in
    ap (λ (n : ℕ). drop n (low_bytes 8 row ++ row_bytes rows)) next
    ∙ drop-append-add (low_bytes 8 row) (row_bytes rows) (8 * s)
    ∙ drop_row_bytes s rows

-- The 8 bytes at row s are those of row s
pub row_bytes_at : (rows : List ℕ) (s : ℕ) → s < length rows → take 8 (drop (8 * s) (row_bytes rows)) ≡ low_bytes 8 (get_or rows s 0)
unfolding row_bytes
row_bytes_at rows s l =
    ap (take 8) (drop_row_bytes s rows ∙ ap row_bytes (drop-cons rows s 0 l))
    ∙ take_at (low_bytes 8 (get_or rows s 0)) (row_bytes (drop (suc s) rows)) 8 (length_low_bytes 8 (get_or rows s 0))

-- ------------------------------------------------------------------
-- Rows written

-- The bytes of one row more
row_bytes_more : (rows : List ℕ) (s : ℕ) → s < length rows
    → row_bytes (take (s + 1) rows) ≡ row_bytes (take s rows) ++ low_bytes 8 (get_or rows s 0)
unfolding row_bytes
row_bytes_more rows s l =
    ap (λ (n : ℕ). row_bytes (take n rows)) (add-one s)
    ∙ ap row_bytes (take-suc rows s 0 l)
    ∙ row_bytes_append (take s rows) (get_or rows s 0 ∷ [])
    ∙ ap (λ (b : List ℕ). row_bytes (take s rows) ++ b) (append-nil (low_bytes 8 (get_or rows s 0)))

-- One row more is stored behind the head and the rows before it
pub row_stored : (buffer rows written after : List ℕ) (s place row : ℕ) → 6 ≤ length buffer → s < length rows
    → written ≡ from_place 6 (row_bytes (take s rows)) buffer → place ≡ sheet_length s → row ≡ get_or rows s 0
    → after ≡ from_place place (low_bytes 8 row) written → after ≡ from_place 6 (row_bytes (take (s + 1) rows)) buffer
row_stored buffer rows written after s place row room l e f g h =
    let before : place ≡ 6 + length (row_bytes (take s rows)) = omega (arith, f, length_row_bytes (take s rows), length-take-le s rows (omega arith)) in
    h
    ∙ ap₂ (λ (at bits : ℕ). from_place at (low_bytes 8 bits) written) before g
    ∙ ap (from_place (6 + length (row_bytes (take s rows))) (low_bytes 8 (get_or rows s 0))) e
    ∙ from_place_append 6 (row_bytes (take s rows)) (low_bytes 8 (get_or rows s 0)) buffer room
    ∙ ap (λ (b : List ℕ). from_place 6 b buffer) (sym (row_bytes_more rows s l))
