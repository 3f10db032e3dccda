-- Laws of the whole text: what it is for an input, and what a buffer holds once it is copied there. Assumes nothing.
use mathlib.Core.Path.{◌≡◌, refl, sym, ap, ap₂, ◌∙◌}
use mathlib.Core.Bool.{Bool, true, false, cond}
use mathlib.Core.List.{List, [], ◌∷◌, ◌++◌}
use Prim.Native.Nat.{ℕ, ◌+◌, ◌≤◌, ◌<◌}
use native.Mathlib.Omega.{arith}
use borrow.Author.Tests.{le-leb, lt-leb}
use lib.Dec.{leb}
use lib.ListN.{length, take, drop, get_or, set, length-append}
use lib.Seq.{length-take-le}
use Rattle.bits.proofs.StoreLaws.{overwritten, overwritten_more, overwritten_front}
use Rattle.plans.specs.Check.{checked}
use Rattle.codes.specs.Codes.{LinearCode}
use Rattle.lines.specs.Lines.{code_line, refusal_line, lines_of}
use Rattle.desk_answers.specs.DeskAnswers.{code_sheet_in, plan_sheet_in, disk_in, desk_text, written_length, written_over}
use Rattle.refusals.specs.Refusals.{Numbered}
use Rattle.refusals.specs.Orders.{Outcome, Fine, Refused, Answer}
use Rattle.code_sheets.specs.CodeReading.{CodeRead, reading}

-- ------------------------------------------------------------------
-- What the text is

module _ (input sheet : List ℕ) (read : CodeRead) (as_sheet : sheet ≡ code_sheet_in input) (as_read : read ≡ reading sheet) where
  -- A refused code sheet's line stands alone
  pub text_if_refused : (refusal : Numbered) → read.verdict ≡ Refused refusal → refusal_line refusal.number refusal.place ≡ desk_text input
  unfolding desk_text
  text_if_refused refusal e =
      let answer = checked (code_sheet_in input) (disk_in input ∷ []) (plan_sheet_in input) in
      ap (λ (v : Outcome). lines_of v read.code (disk_in input) answer) (sym e)
      ∙ ap (λ (r : CodeRead). lines_of r.verdict r.code (disk_in input) answer) (as_read ∙ ap reading as_sheet)

  -- Else the lines of the code, the disk and the answer
  pub text_if_fine : (plan : List ℕ) (disk : ℕ) (answer : Answer ℕ) → plan ≡ plan_sheet_in input → disk ≡ disk_in input → answer ≡ checked sheet (disk ∷ []) plan
      → read.verdict ≡ Fine → lines_of Fine read.code disk answer ≡ desk_text input
  unfolding desk_text
  text_if_fine plan disk answer as_plan as_disk as_answer e =
      ap (λ (v : Outcome). lines_of v read.code disk answer) (sym e)
      ∙ ap (λ (r : CodeRead). lines_of r.verdict r.code disk answer) (as_read ∙ ap reading as_sheet)
      ∙ ap₂ (λ (d : ℕ) (a : Answer ℕ). lines_of (reading (code_sheet_in input)).verdict (reading (code_sheet_in input)).code d a) as_disk checked_so
    where
      checked_so : answer ≡ checked (code_sheet_in input) (disk_in input ∷ []) (plan_sheet_in input)
      checked_so = cc

-- The lines of any verdict and answer are not empty
lines_not_empty : (verdict : Outcome) (code : LinearCode) (disk : ℕ) (answer : Answer ℕ) → 0 < length (lines_of verdict code disk answer)
unfolding refusal_line code_line
lines_not_empty (Refused refusal) code disk answer = simp length-append (omega arith)
lines_not_empty Fine code disk answer = simp length-append (omega arith)

-- There is always a line, so that an answer of 0 means that there is no room
pub text_not_empty : (input : List ℕ) → 0 < length (desk_text input)
unfolding desk_text
text_not_empty input =
    let read = reading (code_sheet_in input) in
    lines_not_empty read.verdict read.code (disk_in input) (checked (code_sheet_in input) (disk_in input ∷ []) (plan_sheet_in input))

-- ------------------------------------------------------------------
-- The text in a buffer

module _ (text out : List ℕ) where
  -- Where there is no room, nothing is written
  pub no_room : length out < length text → (0 ≡ written_length text out) × (out ≡ written_over text out)
  unfolding written_length written_over
  no_room h = (simp (lt-leb (length text) (length out) h), simp (lt-leb (length text) (length out) h))

  module _ (room : length text ≤ length out) (new : List ℕ) (i : ℕ) (e : new ≡ overwritten out text i) where
    -- One byte more is copied
    pub copied_more : i < length text → set new i (get_or text i 0) ≡ overwritten out text (i + 1)
    copied_more h = overwritten_more out text room new i _ h e refl

    -- All bytes are copied
    pub copied_whole : i ≡ length text → (length text ≡ written_length text out) × (new ≡ written_over text out)
    unfolding written_length written_over
    copied_whole all =
        let has_room = le-leb (length text) (length out) room in
        (simp has_room, overwritten_front out text room new i all e ∙ simp has_room)

-- A choice of lengths goes with the same choice of lists
chosen_within : (test : Bool) (text rest out : List ℕ) → cond test (length text) 0 ≤ length (cond test (text ++ rest) out)
chosen_within true text rest out = simp length-append (omega arith)
chosen_within false text rest out = omega arith

-- What a caller may take of the buffer: the answer counts bytes at its front
pub written_within : (text out : List ℕ) {answer : ℕ} {new : List ℕ} → answer ≡ written_length text out → new ≡ written_over text out
    → (answer ≤ length new) × (answer ≡ length (take answer new))
unfolding written_length written_over
written_within text out {answer} {new} e f = (within, sym (length-take-le answer new within))
  where
    within : answer ≤ length new
    within = omega (arith, e, ap length f, chosen_within (leb (length text) (length out)) text (drop (length text) out) out)
