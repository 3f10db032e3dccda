-- Laws of reading a code sheet: what each outcome of the head and of the search answers, and the limits of a code that is read. Assumes nothing.
use mathlib.Core.Path.{◌≡◌, refl, sym, ap, ap₂, ◌∙◌, subst}
use mathlib.Core.Bool.{◌&&◌}
use mathlib.Core.List.{List, [], ◌∷◌}
use Prim.Native.Nat.{ℕ, ◌+◌, ◌*◌, ◌/◌, ◌%◌, ◌^◌, ◌≤◌, ◌<◌}
use native.Mathlib.Omega.{arith}
use lib.Dec.{leb, ltb}
use lib.ListN.{length, get_or, get_or-eq_default, take, drop}
use native.Mathlib.Decide.{dec_lt}
use Rattle.std.proofs.lemmas.List.{get_or-take, length-take-le}
use lib.Seq.{get_or-drop}
use borrow.Author.Tests.{ltb-false, not-false, eqb-true}
use Rattle.codes.specs.Codes.{LinearCode, no_code, rows_of, WithinLimits}
use Rattle.codes.specs.Layouts.{symbols_of}
use Rattle.codes.proofs.RowLaws.{length_rows_of, get_or_rows_of, get_or_rows_of_behind, rows_of_below}
use Rattle.bits.specs.BitSets.{has}
use Rattle.bits.specs.Numerals.{set_width}
use Rattle.refusals.specs.Orders.{Fault, or_if, and_then, first_of, if_fine, Outcome, Fine, Refused}
use Rattle.refusals.specs.Refusals.{Numbered, ◌at◌}
use Rattle.refusals.proofs.OrderLaws.{refusal_stands, refused_is_not_fine, fine_means_none_holds}
use Rattle.code_limits.specs.CodeLimits.{stray_at, first_stray, stray_fault}
use Rattle.code_sheets.specs.CodeSheets.{sheet_length, row_in, code_in}
use Rattle.code_sheets.specs.CodeReading.{head_faults, code_verdict, CodeRead, reading}
use Rattle.sheets.proofs.ByteLaws.{low_first_below}
use Rattle.bits.proofs.SearchLaws.{first_from_alike, none_if_first_from_behind}
use Rattle.bits.proofs.SetLaws.{below_if_no_high_bits}
use Rattle.code_limits.proofs.StrayLaws.{stray_at_high}

-- ------------------------------------------------------------------
-- The outcomes

-- The order up to the rows, judged
unfoldable pub head_verdict : ℕ → ℕ → ℕ → ℕ → ℕ → ℕ → ℕ → Outcome
head_verdict sheet_bytes count edition disks height data_symbols symbols =
    first_of (head_faults sheet_bytes count edition disks height data_symbols symbols)

-- The chain of tests answers the head's verdict
pub is_head_verdict : (sheet_bytes count edition disks height data_symbols symbols : ℕ) {verdict : Outcome}
    → verdict ≡ first_of (head_faults sheet_bytes count edition disks height data_symbols symbols)
    → verdict ≡ head_verdict sheet_bytes count edition disks height data_symbols symbols
unfolding head_verdict
is_head_verdict sheet_bytes count edition disks height data_symbols symbols e = e

-- The head's verdict on a sheet
abbrev pub head_of : List ℕ → Outcome
head_of sheet =
    head_verdict (length sheet) (get_or sheet 0 0) (get_or sheet 1 0) (get_or sheet 2 0) (get_or sheet 3 0) (get_or sheet 4 0) (get_or sheet 5 0)

-- The head's bytes, as they were read, have the head's verdict
pub head_as_read : (sheet : List ℕ) {count edition disks height data_symbols symbols : ℕ} {verdict : Outcome}
    → count ≡ get_or sheet 0 0 → edition ≡ get_or sheet 1 0 → disks ≡ get_or sheet 2 0 → height ≡ get_or sheet 3 0
    → data_symbols ≡ get_or sheet 4 0 → symbols ≡ get_or sheet 5 0
    → verdict ≡ first_of (head_faults (length sheet) count edition disks height data_symbols symbols) → verdict ≡ head_of sheet
head_as_read sheet {count} {edition} {disks} {height} {data_symbols} {symbols} p q r s t u e =
    is_head_verdict (length sheet) count edition disks height data_symbols symbols e ∙ cc (p, q, r, s, t, u)

-- The first stray bit of a sheet
abbrev pub stray_of : List ℕ → ℕ
stray_of sheet = first_stray (code_in sheet).rows (get_or sheet 5 0) (get_or sheet 4 0)

module _ (sheet : List ℕ) where
  code_verdict_by_head : code_verdict sheet ≡ or_if (head_of sheet) (ltb (stray_of sheet) (get_or sheet 5 0 * 64)) (6 at stray_of sheet)
  unfolding code_verdict head_verdict
  code_verdict_by_head = refl

  answered : (verdict : Outcome) → code_verdict sheet ≡ verdict
      → reading sheet ≡ record { verdict = verdict; code = if_fine verdict (code_in sheet) no_code }
  unfolding reading
  answered verdict e = ap (λ (v : Outcome). record { verdict = v; code = if_fine v (code_in sheet) no_code }) e

  -- The head is refused: so is the sheet, and there is no code
  pub reading_head_refused : (refusal : Numbered) → head_of sheet ≡ Refused refusal
      → reading sheet ≡ record { verdict = Refused refusal; code = no_code }
  reading_head_refused refusal e =
      answered (Refused refusal)
      (code_verdict_by_head ∙ ap (λ (v : Outcome). or_if v (ltb (stray_of sheet) (get_or sheet 5 0 * 64)) (6 at stray_of sheet)) e)

  -- A fine head leaves the verdict to the rows
  by_rows : {verdict : Outcome} → head_of sheet ≡ Fine → verdict ≡ first_of (stray_fault (code_in sheet).rows (get_or sheet 5 0) (get_or sheet 4 0) ∷ [])
      → code_verdict sheet ≡ verdict
  by_rows e told =
      code_verdict_by_head ∙ ap (λ (v : Outcome). or_if v (ltb (stray_of sheet) (get_or sheet 5 0 * 64)) (6 at stray_of sheet)) e ∙ sym told

  -- A stray bit is found: what is refused of the rows is refused of the sheet
  pub reading_stray : (refusal : Numbered) → head_of sheet ≡ Fine
      → Refused refusal ≡ first_of (stray_fault (code_in sheet).rows (get_or sheet 5 0) (get_or sheet 4 0) ∷ [])
      → reading sheet ≡ record { verdict = Refused refusal; code = no_code }
  reading_stray refusal e told = answered (Refused refusal) (by_rows e told)

  -- Nothing is wrong: the code is the sheet's
  pub reading_fine : head_of sheet ≡ Fine → Fine ≡ first_of (stray_fault (code_in sheet).rows (get_or sheet 5 0) (get_or sheet 4 0) ∷ [])
      → reading sheet ≡ record { verdict = Fine; code = code_in sheet }
  reading_fine e told = answered Fine (by_rows e told)

-- The rows of the symbols are all that a search for a stray bit looks at
stray_of_rows : (count data_symbols : ℕ) (row : ℕ → ℕ) → count ≤ set_width
    → stray_fault (take count (rows_of count row)) (length (take count (rows_of count row))) data_symbols ≡ stray_fault (rows_of count row) count data_symbols
unfolding stray_at
stray_of_rows count data_symbols row small =
    let held = length_rows_of row count small in
    let many : length (take count rows) ≡ count = length-take-le count rows (omega (arith, held, small)) in
    let stray : first_stray (take count rows) count data_symbols ≡ first_stray rows count data_symbols =
    first_from_alike (stray_at (take count rows) data_symbols) (stray_at rows data_symbols) (count * 64) 0 (λ place from. same_at place) in
    rw (many, stray)
  where
    rows : List ℕ
    rows = rows_of count row

    entry : (i : ℕ) → get_or (take count rows) i 0 ≡ get_or rows i 0
    entry i = by_end (dec_lt i count)
      where
        by_end : Dec (i < count) → get_or (take count rows) i 0 ≡ get_or rows i 0
        by_end (yes below) = get_or-take count rows i 0 below
        by_end (no behind) =
            get_or-eq_default (take count rows) 0 (omega (arith, length-take-le count rows (omega (arith, length_rows_of row count small, small))))
            ∙ sym (get_or_rows_of_behind row count i (omega arith))

    same_at : (place : ℕ) → stray_at (take count rows) data_symbols place ≡ stray_at rows data_symbols place
    same_at place = ap (λ (r : ℕ). leb data_symbols (place % 64) && has r (place % 64)) (entry (place / 64))

-- Rows and numbers as read are the sheet's: so is what is found of a stray bit
pub stray_as_read : (sheet rows : List ℕ) {count data_symbols : ℕ} {verdict : Outcome} → rows ≡ rows_of count (row_in sheet) → count ≡ get_or sheet 5 0
    → data_symbols ≡ get_or sheet 4 0 → count ≤ set_width → verdict ≡ first_of (stray_fault (take count rows) (length (take count rows)) data_symbols ∷ [])
    → verdict ≡ first_of (stray_fault (code_in sheet).rows (get_or sheet 5 0) (get_or sheet 4 0) ∷ [])
unfolding code_in
stray_as_read sheet rows {count} {data_symbols} rows_read count_read data_read small e =
    e
    ∙ ap (λ (l : List ℕ). first_of (stray_fault (take count l) (length (take count l)) data_symbols ∷ [])) rows_read
    ∙ ap (λ (fault : Fault). first_of (fault ∷ [])) (stray_of_rows count data_symbols (row_in sheet) small)
    ∙ ap₂ (λ (n k : ℕ). first_of (stray_fault (rows_of n (row_in sheet)) n k ∷ [])) count_read data_read

-- and so is the code
pub code_as_read : (sheet rows : List ℕ) {disks height data_symbols count : ℕ} → disks ≡ get_or sheet 2 0 → height ≡ get_or sheet 3 0
    → data_symbols ≡ get_or sheet 4 0 → count ≡ get_or sheet 5 0 → rows ≡ rows_of count (row_in sheet)
    → record { layout = record { disks = disks; height = height }; data_symbols = data_symbols; rows = rows } ≡ code_in sheet
unfolding code_in
code_as_read sheet rows disks_read height_read data_read count_read rows_read =
    let all_rows : rows ≡ rows_of (get_or sheet 5 0) (row_in sheet) = rows_read ∙ ap (λ (n : ℕ). rows_of n (row_in sheet)) count_read in
    rw (disks_read, height_read, data_read, all_rows)

-- ------------------------------------------------------------------
-- The limits

-- What a fine head says of its numbers
pub record HeadWithin (sheet_bytes disks height data_symbols symbols : ℕ) : Type 0 where
  pub disks_from : 2 ≤ disks
  pub disks_to : disks ≤ 64
  pub height_from : 1 ≤ height
  pub height_to : height ≤ 32
  pub symbols_to : disks * height ≤ 64
  pub data_from : 1 ≤ data_symbols
  pub data_to : data_symbols ≤ 64
  pub symbols_are : symbols ≡ disks * height
  pub length_is : sheet_bytes ≡ sheet_length symbols

pub head_within : (sheet_bytes count edition disks height data_symbols symbols : ℕ)
    → head_verdict sheet_bytes count edition disks height data_symbols symbols ≡ Fine → HeadWithin sheet_bytes disks height data_symbols symbols
unfolding head_verdict
head_within sheet_bytes count edition disks height data_symbols symbols e =
    let none = (fine_means_none_holds Fine (head_faults sheet_bytes count edition disks height data_symbols symbols) e).1 in
    record {
      disks_from = ltb-false disks 2 none.1.1.1.0;
      disks_to = ltb-false 64 disks none.1.1.1.1.0;
      height_from = ltb-false height 1 none.1.1.1.1.1.0;
      height_to = ltb-false 32 height none.1.1.1.1.1.1.0;
      symbols_to = ltb-false 64 (disks * height) none.1.1.1.1.1.1.1.0;
      data_from = ltb-false data_symbols 1 none.1.1.1.1.1.1.1.1.0;
      data_to = ltb-false 64 data_symbols none.1.1.1.1.1.1.1.1.1.0;
      symbols_are = eqb-true symbols (disks * height) (not-false _ none.1.1.1.1.1.1.1.1.1.1.0);
      length_is = let low = ltb-false sheet_bytes (sheet_length symbols) none.1.1.1.1.1.1.1.1.1.1.1.0 in let high = ltb-false (sheet_length symbols) sheet_bytes none.1.1.1.1.1.1.1.1.1.1.1.1.0 in omega arith;
    }

-- The head of a sheet within its limits
abbrev pub SheetWithin : List ℕ → Type 0
SheetWithin sheet = HeadWithin (length sheet) (get_or sheet 2 0) (get_or sheet 3 0) (get_or sheet 4 0) (get_or sheet 5 0)

pub sheet_within : (sheet : List ℕ) → head_of sheet ≡ Fine → SheetWithin sheet
sheet_within sheet e =
    head_within (length sheet) (get_or sheet 0 0) (get_or sheet 1 0) (get_or sheet 2 0) (get_or sheet 3 0) (get_or sheet 4 0) (get_or sheet 5 0) e

-- A sheet that is not refused has a fine head and no stray bit
pub code_fine : (sheet : List ℕ) → code_verdict sheet ≡ Fine → (head_of sheet ≡ Fine) × (get_or sheet 5 0 * 64 ≤ stray_of sheet)
code_fine sheet e =
    let both = fine_means_none_holds (head_of sheet) (stray_fault (code_in sheet).rows (get_or sheet 5 0) (get_or sheet 4 0) ∷ [])
    (sym (code_verdict_by_head sheet) ∙ e) in
    (both.0, ltb-false (stray_of sheet) (get_or sheet 5 0 * 64) both.1.0)

-- The numbers of a code, read or not, are small
pub record Small (code : LinearCode) : Type 0 where
  pub disks_to : code.layout.disks ≤ 64
  pub height_to : code.layout.height ≤ 32
  pub data_to : code.data_symbols ≤ 64

pub reading_small : (sheet : List ℕ) → Small (reading sheet).code
unfolding reading code_in
reading_small sheet = by_verdict (code_verdict sheet) refl
  where
    by_verdict : (verdict : Outcome) → code_verdict sheet ≡ verdict → Small (if_fine verdict (code_in sheet) no_code)
    by_verdict Fine e =
        let within = sheet_within sheet (code_fine sheet e).0 in
        record { disks_to = within.disks_to; height_to = within.height_to; data_to = within.data_to }
    by_verdict (Refused refusal) e = record { disks_to = omega arith; height_to = omega arith; data_to = omega arith }

-- Where nothing is refused, the code is the sheet's
pub reading_code : (sheet : List ℕ) → (reading sheet).verdict ≡ Fine → (reading sheet).code ≡ code_in sheet
unfolding reading
reading_code sheet e = ap (λ (verdict : Outcome). if_fine verdict (code_in sheet) no_code) e

-- ------------------------------------------------------------------
-- A code that is read is within the limits

pub code_within_limits : (sheet : List ℕ) → ((i : ℕ) → get_or sheet i 0 < 256) → (reading sheet).verdict ≡ Fine
    → WithinLimits (reading sheet).code
unfolding reading code_in row_in symbols_of
code_within_limits sheet bytes e = subst WithinLimits (sym (reading_code sheet e)) within
  where
    head : SheetWithin sheet
    head = sheet_within sheet (code_fine sheet e).0

    count : ℕ
    count = get_or sheet 5 0

    row_below : (s : ℕ) → s < count → row_in sheet s < 2 ^ get_or sheet 4 0
    row_below s h =
        below_if_no_high_bits (get_or sheet 4 0) 64 (row_in sheet s) head.data_to
        (low_first_below 8 (drop (sheet_length s) sheet) (λ i. subst (λ (b : ℕ). b < 256) (sym (get_or-drop (sheet_length s) sheet i 0)) (bytes (sheet_length s + i))))
        (λ bit low high.
        ap (λ (row : ℕ). has row bit) (sym (get_or_rows_of (row_in sheet) count s h))
        ∙ sym (stray_at_high (code_in sheet).rows (get_or sheet 4 0) s bit high low)
        ∙ none_if_first_from_behind (stray_at (code_in sheet).rows (get_or sheet 4 0)) (count * 64) 0 (s * 64 + bit) (omega (arith, (code_fine sheet e).1)) (omega arith) (omega arith))

    within : WithinLimits (code_in sheet)
    within =
        record {
          disks_from = head.disks_from;
          disks_to = head.disks_to;
          height_from = head.height_from;
          height_to = head.height_to;
          symbols_to = head.symbols_to;
          data_from = head.data_from;
          data_to = head.data_to;
          rows_held = length_rows_of (row_in sheet) count (omega (arith, head));
          rows_below = rows_of_below (row_in sheet) count (get_or sheet 4 0) row_below;
          rows_behind = λ s h. get_or_rows_of_behind (row_in sheet) count s (omega (arith, head.symbols_are));
        }

-- ------------------------------------------------------------------
-- What a caller has read

-- What `read_code` promises of its answer: it is the reading, and within the limits where nothing is refused
abbrev pub ReadFrom : List ℕ → CodeRead → Type 0
ReadFrom sheet read = (read ≡ reading sheet) × (read.verdict ≡ Fine → WithinLimits read.code)

-- A refused sheet has no code, and so none beyond the limits
pub from_refused : (sheet : List ℕ) {refusal : Numbered} → record { verdict = Refused refusal; code = no_code } ≡ reading sheet
    → ReadFrom sheet (record { verdict = Refused refusal; code = no_code })
from_refused sheet e = (e, λ fine. absurd (refused_is_not_fine fine))

module _ (sheet : List ℕ) where
  -- A code that was read is the sheet's, and nothing is refused of it
  pub read_ok : {code : LinearCode} → record { verdict = Fine; code = code } ≡ reading sheet → ((reading sheet).verdict ≡ Fine) × ((reading sheet).code ≡ code)
  read_ok e = (ap (λ (r : CodeRead). r.verdict) (sym e), ap (λ (r : CodeRead). r.code) (sym e))

  -- What refuses a code sheet refuses each call on it, whatever the call tests behind
  pub read_refused : {refusal : Numbered} (faults : LinearCode → List Fault) → record { verdict = Refused refusal; code = no_code } ≡ reading sheet
      → Refused refusal ≡ and_then (reading sheet).verdict (faults (reading sheet).code)
  read_refused {refusal} faults e =
      sym (refusal_stands refusal (faults no_code)) ∙ ap (λ (r : CodeRead). and_then r.verdict (faults r.code)) e

  -- Where the code sheet is read, what the call tests behind it decides
  pub read_then : {code : LinearCode} {verdict : Outcome} (faults : LinearCode → List Fault) → record { verdict = Fine; code = code } ≡ reading sheet
      → verdict ≡ first_of (faults code) → verdict ≡ and_then (reading sheet).verdict (faults (reading sheet).code)
  read_then faults e told = told ∙ ap (λ (r : CodeRead). and_then r.verdict (faults r.code)) e
