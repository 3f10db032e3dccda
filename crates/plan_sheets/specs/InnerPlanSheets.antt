-- The plan sheet as it is written, byte after byte, and the steps that are written: those for the wanted symbols, from a subset of the survivors for each.
use Rattle.std.specs.Prelude.{◌≡◌, Bool, cond, List, [], ◌∷◌, ◌++◌, ℕ, ◌+◌, ◌/◌, ◌%◌, ◌^◌, ◌≤◌, ◌<◌, eqb, length, get_or}
use Rattle.bits.specs.BitSets.{has}
use Rattle.bits.specs.Lists.{symbols_in, count_from}
use Rattle.bits.specs.Numerals.{set_width}
use Rattle.codes.specs.Codes.{LayoutWithin}
use Rattle.codes.specs.Layouts.{symbols_of}
use Rattle.codes.specs.declared.Layout.{Layout}
use Rattle.gf2.specs.InnerSubsetPlans.{plan_of}
use Rattle.gf2.specs.Plans.{read_by_any}
use Rattle.gf2.specs.declared.Step.{Step}
use Rattle.gf2.specs.declared.Step.TheVariants.{Clear, Copy, Add}
use Rattle.sheets.specs.Buffers.{from_place}
use Rattle.sheets.specs.Bytes.{counted}
use Rattle.plan_sheets.specs.PlanSheets.{PlanHead, ListPlace, Sections, first_count, sections_for, head_length, step_limit, steps_length, sheet_length}

-- ------------------------------------------------------------------
-- The head

-- The first numbers: 6 or 5, edition, n, r, K
abbrev pub first_numbers : PlanHead → List ℕ
first_numbers head = head.count ∷ head.edition ∷ head.disks ∷ head.height ∷ head.data_symbols ∷ []

-- The failed disk and the read count; in edition 3 the read count and the list of disks
abbrev pub disk_bytes : ℕ → ℕ → List ℕ → List ℕ
disk_bytes edition reads failed = cond (eqb edition 3) (reads ∷ counted failed) (get_or failed 0 0 ∷ reads ∷ [])

-- The list of wanted symbols, which edition 1 does not have
abbrev pub wanted_bytes : ℕ → List ℕ → List ℕ
wanted_bytes edition wanted = cond (eqb edition 1) [] (counted wanted)

-- Where the lists lie
abbrev pub sections_of : ℕ → List ℕ → List ℕ → Sections
sections_of edition failed wanted = sections_for edition (length failed) (length wanted)

-- A list that ends within two lists that one byte counts
abbrev pub SmallPlace : ListPlace → Type 0
SmallPlace place = place.first + place.count < 519

pub record SmallSections (sections : Sections) : Type 0 where
  pub failed_small : SmallPlace sections.failed
  pub wanted_small : SmallPlace sections.wanted

-- Editions 1, which lists no symbols, and 2, both of one disk, and 3
pub data EditionFits (edition : ℕ) (failed wanted : List ℕ) : Type 0 where
  First : edition ≡ 1 → length failed ≡ 1 → wanted ≡ [] → EditionFits edition failed wanted
  Second : edition ≡ 2 → length failed ≡ 1 → EditionFits edition failed wanted
  Third : edition ≡ 3 → EditionFits edition failed wanted

-- The head of a sheet of so many steps
unfoldable pub plan_head : PlanHead → List ℕ → List ℕ → ℕ → List ℕ
plan_head head failed wanted steps =
    first_numbers head ++ disk_bytes head.edition head.reads failed ++ wanted_bytes head.edition wanted ++ (steps % 256 ∷ steps / 256 ∷ [])

-- The head of a plan for a code
abbrev pub head_for : ℕ → Layout → ℕ → ℕ → PlanHead
head_for edition layout data_symbols reads =
    record {
      count = first_count edition;
      edition = edition;
      disks = layout.disks;
      height = layout.height;
      data_symbols = data_symbols;
      reads = reads;
    }

-- A head whose numbers are bytes
pub record HeadOfBytes (head : PlanHead) : Type 0 where
  pub count_to : head.count < 256
  pub edition_to : head.edition < 256
  pub disks_to : head.disks < 256
  pub height_to : head.height < 256
  pub data_to : head.data_symbols < 256
  pub reads_to : head.reads < 256

-- What writing a head needs: a known edition, numbers of one byte, and room
pub record HeadWritable (head : PlanHead) (failed wanted : List ℕ) (steps buffer_length : ℕ) : Type 0 where
  pub edition_fits : EditionFits head.edition failed wanted
  pub numbers_to : HeadOfBytes head
  pub failed_to : length failed < 256
  pub wanted_to : length wanted < 256
  pub steps_to : steps ≤ step_limit
  pub room : head_length (sections_of head.edition failed wanted) ≤ buffer_length

-- ------------------------------------------------------------------
-- The steps

-- A step: kind 0 is clear, with source byte 0; kind 1 is copy, kind 2 add
abbrev pub step_bytes : Step → List ℕ
step_bytes (Clear t) = 0 ∷ t ∷ 0 ∷ []
step_bytes (Copy t s) = 1 ∷ t ∷ s ∷ []
step_bytes (Add t s) = 2 ∷ t ∷ s ∷ []

-- Steps of 3 bytes, one after the other
unfoldable pub steps_bytes : List Step → List ℕ
steps_bytes [] = []
steps_bytes (step ∷ steps) = step_bytes step ++ steps_bytes steps

-- The sheet of a plan
unfoldable pub plan_sheet : PlanHead → List ℕ → List ℕ → List Step → List ℕ
plan_sheet head failed wanted steps = plan_head head failed wanted (length steps) ++ steps_bytes steps

-- The part of a buffer behind the head, with steps written from step `number` on; all other bytes stay
unfoldable pub with_steps : List ℕ → ℕ → List Step → List ℕ
with_steps buffer number steps = from_place (steps_length number) (steps_bytes steps) buffer

-- So many steps, no more than the limit, lie within so many bytes
pub record StepsWithin (count bytes : ℕ) : Type 0 where
  pub few : count ≤ step_limit
  pub room : steps_length count ≤ bytes

-- These steps do, from step `number` on
abbrev pub StepsFit : ℕ → List Step → ℕ → Type 0
StepsFit number steps bytes = StepsWithin (number + length steps) bytes

-- ------------------------------------------------------------------
-- The plan of wanted symbols, from a subset of the survivors for each

-- The steps: each symbol is the sum of its subset, entry t of the subsets for symbol t
abbrev pub plan_for : List ℕ → ℕ → List ℕ → List Step
plan_for subsets symbols targets = plan_of (λ t. get_or subsets t 0) symbols targets

-- The steps for the wanted symbols of an array
abbrev pub subset_plan : ℕ → (ℕ → Bool) → List ℕ → List Step
subset_plan symbols wanted subsets = plan_for subsets symbols (symbols_in wanted 0 symbols)

-- How many symbols any of the steps names as a source
abbrev pub source_count : ℕ → List Step → ℕ
source_count symbols steps = count_from (λ s. read_by_any s steps) 0 symbols

-- What writing the steps for the wanted symbols needs: subsets of the array's symbols, and room for the steps
pub record StepsWritable (subsets : List ℕ) (symbols : ℕ) (wanted : ℕ → Bool) (buffer_length : ℕ) : Type 0 where
  pub symbols_to : symbols ≤ set_width
  pub subsets_below : (t : ℕ) → get_or subsets t 0 < 2 ^ symbols
  pub fits : StepsFit 0 (subset_plan symbols wanted subsets) buffer_length

-- The steps' number and the symbols that they name as a source, as they are answered
pub record Tells (symbols : ℕ) (plan : List Step) (count sources : ℕ) : Type 0 where
  pub count_is : count ≡ length plan
  pub sources_below : sources < 2 ^ symbols
  pub sources_are : (s : ℕ) → has sources s ≡ read_by_any s plan

-- What writing the sheet needs: a layout within the limits, an edition, K and lists of bytes, subsets of the array's symbols, and steps that a sheet
-- has room for
pub record PlanFits (edition : ℕ) (layout : Layout) (data_symbols : ℕ) (failed list : List ℕ) (wanted : ℕ → Bool) (subsets : List ℕ) (buffer_length : ℕ) : Type 0 where
  pub edition_fits : EditionFits edition failed list
  pub layout_within : LayoutWithin layout
  pub data_to : data_symbols < 256
  pub failed_to : length failed < 256
  pub list_to : length list < 256
  pub subsets_below : (t : ℕ) → get_or subsets t 0 < 2 ^ symbols_of layout
  pub steps_fit : length (subset_plan (symbols_of layout) wanted subsets) ≤ step_limit
  pub room : sheet_length (sections_of edition failed list) (length (subset_plan (symbols_of layout) wanted subsets)) ≤ buffer_length
