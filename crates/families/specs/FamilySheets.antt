-- A family's code sheet, written into a lent buffer (document 01, "What each call leaves"). "A family: 36, 37."
use Rattle.std.specs.Prelude.{◌≡◌, not, List, [], ◌∷◌, ℕ, ltb, length, take, Result, Ok, Err}
use Rattle.refusals.specs.Orders.{Fault, ◌gets◌, first_of, if_fine, Outcome, Fine, Answer, Gives, Refuses, answering}
use Rattle.refusals.specs.Refusals.{◌at◌, numbered}
use Rattle.refusals.specs.declared.Refusal.{Refusal}
use Rattle.sheets.specs.Buffers.{at_front}
use Rattle.code_sheets.specs.CodeReading.{reading}
use Rattle.code_sheets.specs.CodeSheets.{code_sheet}
use Rattle.family_codes.specs.declared.Family.{Family}
use Rattle.family_codes.specs.Families.{family_code, listed}

-- The sheet to be written
abbrev pub family_sheet : Family → List ℕ
family_sheet family = code_sheet (family_code family)

-- 36: family parameters not listed, or n, N or r above its limit. 37: sheet buffer shorter than the sheet to be written
abbrev pub family_faults : Family → ℕ → List Fault
family_faults family buffer_length =
    (not (listed family) gets 36 at 0)
    ∷ (ltb buffer_length (length (family_sheet family)) gets 37 at 0)
    ∷ []

-- The first of them that holds, or none
unfoldable pub family_verdict : Family → ℕ → Outcome
family_verdict family buffer_length = first_of (family_faults family buffer_length)

-- What the call's result stands for
abbrev pub as_written : Result ℕ Refusal → Answer ℕ
as_written (Ok sheet_length) = Gives sheet_length
as_written (Err refusal) = Refuses (numbered refusal)

-- What the call answers: the sheet's length, or the refusal
unfoldable pub family_answer : Family → ℕ → Answer ℕ
family_answer family buffer_length = answering (family_verdict family buffer_length) (length (family_sheet family))

-- The sheet at the front of the buffer, bytes behind it stay; where the call refuses, no byte changes
unfoldable pub family_buffer : Family → List ℕ → List ℕ
family_buffer family buffer =
    if_fine (family_verdict family (length buffer)) (at_front (family_sheet family) buffer) buffer

-- Where a sheet was written, reading as many bytes as were answered refuses nothing and gives this very code
abbrev pub ReadsBack : Answer ℕ → Family → List ℕ → Type 0
ReadsBack (Gives sheet_length) family buffer =
    reading (take sheet_length buffer) ≡ record { verdict = Fine; code = family_code family }
ReadsBack (Refuses refusal) family buffer = Unit
