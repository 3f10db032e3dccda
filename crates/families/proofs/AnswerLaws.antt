-- What a family's verdict says of the call: its answer, its buffer, and that a sheet is read back. Assumes nothing.
use mathlib.Core.Path.{◌≡◌, refl, sym, ap, ap₂, ◌∙◌}
use mathlib.Core.Bool.{Bool, true, false, not}
use mathlib.Core.List.{List}
use Prim.Native.Nat.{ℕ, ◌≤◌}
use native.Mathlib.Omega.{arith}
use lib.Dec.{ltb}
use lib.ListN.{length, take, drop}
use lib.Seq.{take-append_seam}
use borrow.Author.Tests.{ltb-false}
use Rattle.codes.specs.Layouts.{symbols_of}
use Rattle.refusals.specs.Orders.{Outcome, Fine, Refused, or_if, Gives, Refuses}
use Rattle.refusals.specs.Refusals.{Numbered, ◌at◌}
use Rattle.sheets.specs.Buffers.{at_front}
use Rattle.code_sheets.specs.CodeSheets.{sheet_length}
use Rattle.code_sheets.specs.CodeReading.{reading}
use Rattle.family_codes.specs.declared.Family.{Family}
use Rattle.family_codes.specs.Families.{listed, family_layout, family_code}
use Rattle.families.specs.FamilySheets.{family_sheet, family_verdict, family_answer, family_buffer, ReadsBack}
use Rattle.family_codes.proofs.LimitLaws.{family_code_within_limits}
use Rattle.code_sheets.proofs.SheetLaws.{length_code_sheet}
use Rattle.code_sheets.proofs.ReadBackLaws.{reading_code_sheet}

-- The sheet of a listed family has 6 bytes, and 8 for each symbol
pub length_family_sheet : (family : Family) → listed family ≡ true
    → length (family_sheet family) ≡ sheet_length (symbols_of (family_layout family))
unfolding family_code
length_family_sheet family h =
    let within = family_code_within_limits family h in
    length_code_sheet (family_code family) (omega arith)

-- ------------------------------------------------------------------
-- The verdict

module _ (family : Family) (size : ℕ) where
  -- 36, whatever the buffer
  pub family_verdict_of_unlisted : listed family ≡ false → Refused (36 at 0) ≡ family_verdict family size
  unfolding family_verdict
  family_verdict_of_unlisted h = rw h

  -- 37 is all that is left to test
  pub family_verdict_of_listed : listed family ≡ true
      → or_if Fine (ltb size (length (family_sheet family))) (37 at 0) ≡ family_verdict family size
  unfolding family_verdict
  family_verdict_of_listed h = rw h

  -- What 36 refuses is refused
  pub family_verdict_first : (refusal : Numbered) → Refused refusal ≡ or_if Fine (not (listed family)) (36 at 0) → family_verdict family size ≡ Refused refusal
  unfolding family_verdict
  family_verdict_first refusal e = ap (λ (v : Outcome). or_if v (ltb size (length (family_sheet family))) (37 at 0)) (sym e)

  family_verdict_of_short_buffer : listed family ≡ true → ltb size (length (family_sheet family)) ≡ true
      → Refused (37 at 0) ≡ family_verdict family size
  unfolding family_verdict
  family_verdict_of_short_buffer h e = rw (h, e)

  -- Where nothing is refused, the family is listed and its sheet has room
  pub fine_so_listed : family_verdict family size ≡ Fine → listed family ≡ true
  fine_so_listed h = split (listed family) refl
    where
      split : (known : Bool) → listed family ≡ known → listed family ≡ true
      split true e = e
      split false e = cc (family_verdict_of_unlisted e)

  pub fine_so_room : family_verdict family size ≡ Fine → length (family_sheet family) ≤ size
  fine_so_room h = ltb-false size (length (family_sheet family)) (split (ltb size (length (family_sheet family))) refl)
    where
      split : (short : Bool) → ltb size (length (family_sheet family)) ≡ short → ltb size (length (family_sheet family)) ≡ false
      split false e = e
      split true e = cc (family_verdict_of_short_buffer (fine_so_listed h) e)

-- ------------------------------------------------------------------
-- The call

module _ (family : Family) (buffer : List ℕ) where
  -- A refusal is the answer, and no byte changes
  pub refused_call : (refusal : Numbered) → family_verdict family (length buffer) ≡ Refused refusal
      → (Refuses refusal ≡ family_answer family (length buffer))
      × ((buffer ≡ family_buffer family buffer) × ReadsBack (Refuses refusal) family buffer)
  unfolding family_answer family_buffer
  refused_call refusal e = (rw e, (rw e, tt))

  -- A sheet's length is the answer, the sheet stands at the front, and it is read back
  pub written_call : (new : List ℕ) (size : ℕ) → family_verdict family (length buffer) ≡ Fine
      → size ≡ length (family_sheet family) → new ≡ at_front (family_sheet family) buffer
      → (Gives size ≡ family_answer family (length buffer))
      × ((new ≡ family_buffer family buffer) × ReadsBack (Gives size) family new)
  unfolding family_answer family_buffer
  written_call new size e f g =
      let sheet = family_sheet family in
      let behind = drop (length (family_sheet family)) buffer in
      let within = family_code_within_limits family (fine_so_listed family (length buffer) e) in
      let front : take size new ≡ family_sheet family = ap₂ take f g ∙ take-append_seam sheet behind in (
        rw (e, f),
        (rw e g, ap reading front ∙ reading_code_sheet (family_code family) within),
      )
