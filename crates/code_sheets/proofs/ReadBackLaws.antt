-- Reading the sheet of a code within the limits refuses nothing and gives the code. Assumes nothing.
use mathlib.Core.Path.{◌≡◌, refl, sym, ap, ◌∙◌}
use mathlib.Core.Bool.{false, not, ◌&&◌}
use mathlib.Core.List.{List}
use Prim.Native.Nat.{ℕ, ◌*◌, ◌/◌, ◌%◌, ◌^◌, ◌≤◌, ◌<◌}
use native.Mathlib.Decide.{dec_lt, dec_le}
use native.Mathlib.Nat.{zero-add}
use native.Mathlib.Omega.{arith}
use lib.Dec.{leb}
use lib.ListN.{length, get_or}
use lib.Pow.{pow_mono}
use lib.Seq.{ext_get_or}
use borrow.Author.Tests.{le-ltb, le-leb, lt-leb, eq-eqb}
use Rattle.codes.proofs.RowLaws.{length_rows_of, get_or_rows_of, get_or_rows_of_behind}
use Rattle.codes.specs.Codes.{LinearCode, WithinLimits, symbols, rows_of}
use Rattle.codes.specs.Layouts.{symbols_of}
use Rattle.bits.specs.BitSets.{has}
use Rattle.refusals.specs.Orders.{Fine}
use Rattle.code_limits.specs.CodeLimits.{stray_at, first_stray}
use Rattle.code_sheets.specs.CodeReading.{code_faults, code_verdict, reading}
use Rattle.code_sheets.specs.CodeSheets.{sheet_length, row_in, code_sheet, code_in}
use Rattle.refusals.proofs.OrderLaws.{NoneHolds, none_holds_means_fine}
use Rattle.bits.proofs.SearchLaws.{first_from_none}
use Rattle.bits.proofs.SetLaws.{has_above}
use Rattle.code_sheets.proofs.SheetLaws.{length_code_sheet, row_in_code_sheet}

-- Such rows have no stray bit
stray_at_none : (rows : List ℕ) (bits place : ℕ) → ((s : ℕ) → get_or rows s 0 < 2 ^ bits) → stray_at rows bits place ≡ false
unfolding stray_at
stray_at_none rows bits place h = split (dec_le bits (place % 64))
  where
    split : Dec (bits ≤ place % 64) → (leb bits (place % 64) && has (get_or rows (place / 64) 0) (place % 64)) ≡ false
    split (yes l) = simp (le-leb bits (place % 64) l, has_above bits (get_or rows (place / 64) 0) (place % 64) (h (place / 64)) l)
    split (no l) = simp (lt-leb bits (place % 64) (omega arith))

module _ (code : LinearCode) (within : WithinLimits code) where
  -- ------------------------------------------------------------------
  -- The code of a code's sheet

  -- The rows of the sheet are the code's
  rows_of_code_sheet : rows_of (symbols code) (row_in (code_sheet code)) ≡ code.rows
  rows_of_code_sheet =
      ext_get_or 0 (rows_of (symbols code) (row_in (code_sheet code))) code.rows
      (length_rows_of (row_in (code_sheet code)) (symbols code) (omega (arith, within.symbols_to)) ∙ sym within.rows_held)
      (λ s b. at s (dec_lt s (symbols code)))
    where
      at : (s : ℕ) → Dec (s < symbols code) → get_or (rows_of (symbols code) (row_in (code_sheet code))) s 0 ≡ get_or code.rows s 0
      at s (yes l) =
          get_or_rows_of (row_in (code_sheet code)) (symbols code) s l
          ∙ row_in_code_sheet code s (omega arith) l
          (omega (arith, within.rows_below s, pow_mono {i = code.data_symbols} {j = 64} within.data_to))
      at s (no l) =
          get_or_rows_of_behind (row_in (code_sheet code)) (symbols code) s (omega arith) ∙ sym (within.rows_behind s (omega arith))

  -- The code of the sheet is the code
  pub code_in_code_sheet : code_in (code_sheet code) ≡ code
  unfolding code_in code_sheet
  code_in_code_sheet =
      ap (λ (rows : List ℕ). record { layout = code.layout; data_symbols = code.data_symbols; rows = rows }) rows_of_code_sheet

  -- ------------------------------------------------------------------
  -- No refusal

  -- No bit of the sheet is stray
  first_stray_code_sheet : first_stray (code_in (code_sheet code)).rows (symbols code) code.data_symbols ≡ symbols code * 64
  first_stray_code_sheet =
      ap (λ (c : LinearCode). first_stray c.rows (symbols code) code.data_symbols) code_in_code_sheet
      ∙ first_from_none (stray_at code.rows code.data_symbols) (symbols code * 64) 0
      (λ place from to. stray_at_none code.rows code.data_symbols place within.rows_below)
      ∙ zero-add (symbols code * 64)

  -- Each test of the order fails, from 1 to 6
  none_holds : NoneHolds (code_faults (code_sheet code))
  unfolding code_sheet symbols_of
  none_holds =
      let bytes = length (code_sheet code) in
      let due = sheet_length (symbols code) in
      let size : bytes ≡ due = length_code_sheet code (omega arith) in
      let n = code.layout.disks in
      let r = code.layout.height in
      let k = code.data_symbols in (
        le-ltb bytes 6 (omega arith),
        (
          refl,
          (
            refl,
            (
              le-ltb n 2 within.disks_from,
              (
                le-ltb 64 n within.disks_to,
                (
                  le-ltb r 1 within.height_from,
                  (
                    le-ltb 32 r within.height_to,
                    (
                      le-ltb 64 (n * r) within.symbols_to,
                      (
                        le-ltb k 1 within.data_from,
                        (
                          le-ltb 64 k within.data_to,
                          (
                            ap not (eq-eqb (n * r) (n * r) refl),
                            (
                              le-ltb bytes due (omega arith),
                              (
                                le-ltb due bytes (omega arith),
                                (
                                  le-ltb (first_stray (code_in (code_sheet code)).rows (symbols code) k) (symbols code * 64) (omega (arith, first_stray_code_sheet)),
                                  tt,
                                ),
                              ),
                            ),
                          ),
                        ),
                      ),
                    ),
                  ),
                ),
              ),
            ),
          ),
        ),
      )

  -- The sheet of a code within the limits is not refused
  pub code_verdict_code_sheet : code_verdict (code_sheet code) ≡ Fine
  unfolding code_verdict
  code_verdict_code_sheet = none_holds_means_fine (code_faults (code_sheet code)) none_holds

  -- What is written is read
  pub reading_code_sheet : reading (code_sheet code) ≡ record { verdict = Fine; code = code }
  unfolding reading
  reading_code_sheet = rw (code_verdict_code_sheet, code_in_code_sheet)
