-- The plan sheet (document 01, "The two sheets"; document 02, §3 and §5).
-- Editions 1 and 2: one byte 6, then edition, n, r, K, failed disk, read count; in edition 2 one byte count and that many wanted symbols.
-- Edition 3: one byte 5, then edition, n, r, K, read count; one byte count and that many lost disks; one byte count and that many wanted symbols.
-- In each then two bytes step count, low byte first, and 3 bytes a step: kind, target, source.
use Rattle.std.specs.Prelude.{cond, List, [], ◌∷◌, map, ℕ, zero, suc, ◌+◌, ◌*◌, eqb, get_or, take, drop}
use Rattle.gf2.specs.declared.Step.{Step}
use Rattle.gf2.specs.declared.Step.TheVariants.{Clear, Copy, Add}
use Rattle.sheets.specs.Bytes.{two_bytes_at}
pub use Rattle.plan_sheets.specs.declared.head.PlanHead.{PlanHead}
pub use Rattle.plan_sheets.specs.declared.head.ListPlace.{ListPlace}
pub use Rattle.plan_sheets.specs.declared.head.Sections.{Sections}
pub use Rattle.plan_sheets.specs.declared.step.SheetStep.{SheetStep}

-- What a plan sheet holds; a plan of any length has any number of steps (document 01, "How tight the answers are")
pub record Plan : Type 0 where
  pub head : PlanHead
  pub failed : List ℕ
  pub wanted : List ℕ
  pub steps : List SheetStep

-- Kind 0 is clear, kind 1 copy, kind 2 add
abbrev pub step_of : SheetStep → Step
step_of s = cond (eqb s.kind 0) (Clear s.target) (cond (eqb s.kind 1) (Copy s.target s.source) (Add s.target s.source))

-- The steps of a plan
abbrev pub steps_of : Plan → List Step
steps_of plan = map step_of plan.steps

-- ------------------------------------------------------------------
-- The head

-- The first byte: how many numbers follow in the first section
abbrev pub first_count : ℕ → ℕ
first_count edition = cond (eqb edition 3) 5 6

-- Where the read count stands: edition 3 has its disks behind it
abbrev pub reads_at : ℕ → ℕ
reads_at edition = cond (eqb edition 3) 5 6

-- The first section
abbrev pub head_in : List ℕ → PlanHead
head_in sheet =
    record {
      count = get_or sheet 0 0;
      edition = get_or sheet 1 0;
      disks = get_or sheet 2 0;
      height = get_or sheet 3 0;
      data_symbols = get_or sheet 4 0;
      reads = get_or sheet (reads_at (get_or sheet 1 0)) 0;
    }

-- Where a list of bytes lies: its first entry and their number
abbrev pub list_from : ℕ → ℕ → ListPlace
list_from first count = record { first = first; count = count }

-- Where the lists of failed disks and of wanted symbols lie, for so many of each. Editions 1 and 2 have one disk, and edition 1 lists no symbols
unfoldable pub sections_for : ℕ → ℕ → ℕ → Sections
sections_for edition failed listed =
    cond (eqb edition 3) (record { failed = list_from 7 failed; wanted = list_from (8 + failed) listed })
    (record { failed = list_from 5 1; wanted = cond (eqb edition 2) (list_from 8 listed) (list_from 7 0) })

-- Where the number of wanted symbols stands: in edition 3 behind the list of disks
abbrev pub wanted_count_at : ℕ → ℕ → ℕ
wanted_count_at edition failed = cond (eqb edition 3) (7 + failed) 7

abbrev pub sections_in : List ℕ → Sections
sections_in sheet = sections_for (get_or sheet 1 0) (get_or sheet 6 0) (get_or sheet (wanted_count_at (get_or sheet 1 0) (get_or sheet 6 0)) 0)

-- A list, as far as the sheet goes
abbrev pub list_at : ListPlace → List ℕ → List ℕ
list_at place sheet = take place.count (drop place.first sheet)

-- The step count stands behind the lists, and the steps behind the step count
abbrev pub steps_at : Sections → ℕ
steps_at sections = sections.wanted.first + sections.wanted.count

abbrev pub head_length : Sections → ℕ
head_length sections = steps_at sections + 2

abbrev pub step_count_at : Sections → List ℕ → ℕ
step_count_at sections sheet = two_bytes_at sheet (steps_at sections)

abbrev pub step_count : List ℕ → ℕ
step_count sheet = step_count_at (sections_in sheet) sheet

-- ------------------------------------------------------------------
-- The steps

-- The step limit: "A plan has 0 to 1,024 steps"
abbrev pub step_limit : ℕ
step_limit = 1024

-- The length of so many steps
abbrev pub steps_length : ℕ → ℕ
steps_length steps = 3 * steps

-- The length of a sheet of so many steps
abbrev pub sheet_length : Sections → ℕ → ℕ
sheet_length sections steps = head_length sections + steps_length steps

-- The step that 3 bytes begin with
abbrev pub first_step : List ℕ → SheetStep
first_step bytes = record { kind = get_or bytes 0 0; target = get_or bytes 1 0; source = get_or bytes 2 0 }

-- Step `number` of bytes that have steps alone
abbrev pub step_at : List ℕ → ℕ → SheetStep
step_at bytes number = first_step (drop (steps_length number) bytes)

-- So many steps of 3 bytes
unfoldable pub sheet_steps : ℕ → List ℕ → List SheetStep
sheet_steps zero bytes = []
sheet_steps (suc count) bytes = first_step bytes ∷ sheet_steps count (drop 3 bytes)

-- ------------------------------------------------------------------
-- The plan of a sheet

abbrev pub plan_in : List ℕ → Plan
plan_in sheet =
    record {
      head = head_in sheet;
      failed = list_at (sections_in sheet).failed sheet;
      wanted = list_at (sections_in sheet).wanted sheet;
      steps = sheet_steps (step_count sheet) (drop (head_length (sections_in sheet)) sheet);
    }
