-- Refusals 1 to 6 and reading (document 01, "When the desk says no"):
-- "Order for a code sheet: under 6 bytes (1), first count (3), 4, 5, second count (3), 1, 2, 6."
use Rattle.std.specs.Prelude.{not, List, [], ◌∷◌, ◌++◌, ℕ, ◌*◌, eqb, ltb, length, get_or, Result, Ok, Err}
use Rattle.codes.specs.declared.Code.{Code}
use Rattle.codes.specs.Codes.{LinearCode, linear, no_code}
use Rattle.refusals.specs.Orders.{Fault, ◌gets◌, first_of, if_fine, Outcome, Fine, Refused}
use Rattle.refusals.specs.Refusals.{numbered, ◌at◌}
use Rattle.refusals.specs.declared.Refusal.{Refusal}
use Rattle.code_limits.specs.CodeLimits.{limit_faults, stray_fault}
use Rattle.code_sheets.specs.CodeSheets.{sheet_length, code_in}

-- The order up to the rows, for a sheet of `sheet_bytes` bytes
abbrev pub head_faults : ℕ → ℕ → ℕ → ℕ → ℕ → ℕ → ℕ → List Fault
head_faults sheet_bytes count edition disks height data_symbols symbols =
    (ltb sheet_bytes 6 gets 1 at 0)
    ∷ (not (eqb count 4) gets 3 at 0)
    ∷ (not (eqb edition 1) gets 4 at 0)
    ∷ limit_faults disks height data_symbols
    ++ (not (eqb symbols (disks * height)) gets 3 at 0)
    ∷ (ltb sheet_bytes (sheet_length symbols) gets 1 at 0)
    ∷ (ltb (sheet_length symbols) sheet_bytes gets 2 at 0)
    ∷ []

-- The whole order for a code sheet
abbrev pub code_faults : List ℕ → List Fault
code_faults sheet =
    head_faults (length sheet) (get_or sheet 0 0) (get_or sheet 1 0) (get_or sheet 2 0) (get_or sheet 3 0) (get_or sheet 4 0) (get_or sheet 5 0)
    ++ stray_fault (code_in sheet).rows (get_or sheet 5 0) (get_or sheet 4 0)
    ∷ []

-- The first refusal of a code sheet, or none
unfoldable pub code_verdict : List ℕ → Outcome
code_verdict sheet = first_of (code_faults sheet)

-- What reading a code sheet answers: the outcome, and the code where it is fine
pub record CodeRead : Type 0 where
  pub verdict : Outcome
  pub code : LinearCode

unfoldable pub reading : List ℕ → CodeRead
reading sheet = record { verdict = code_verdict sheet; code = if_fine (code_verdict sheet) (code_in sheet) no_code }

-- What the result of reading stands for
abbrev pub as_read : Result Code Refusal → CodeRead
as_read (Ok code) = record { verdict = Fine; code = linear code }
as_read (Err refusal) = record { verdict = Refused (numbered refusal); code = no_code }
