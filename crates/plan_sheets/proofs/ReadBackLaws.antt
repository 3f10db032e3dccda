-- Laws of a plan sheet's bytes: their number, and what reading them gives. Assumes nothing.
use mathlib.Core.Path.{◌≡◌, refl, sym, ap, ap₂, ◌∙◌}
use mathlib.Core.Bool.{Bool, true, false, cond}
use mathlib.Core.List.{List, [], ◌∷◌, ◌++◌, map, append_assoc}
use Prim.Native.Nat.{ℕ, ◌+◌, ◌*◌, ◌/◌, ◌%◌}
use native.Mathlib.Omega.{arith}
use lib.Dec.{eqb}
use lib.ListN.{length, get_or, take, drop, length-append}
use lib.Seq.{take_at, drop_at, get_or_at, append_snoc}
use Rattle.gf2.specs.declared.Step.{Step}
use Rattle.gf2.specs.declared.Step.TheVariants.{Clear, Copy, Add}
use Rattle.sheets.specs.Bytes.{counted}
use Rattle.plan_sheets.specs.PlanSheets.{PlanHead, ListPlace, Sections, SheetStep, Plan, step_of, steps_of, head_in, list_from, sections_for, wanted_count_at, sections_in, list_at, steps_at, head_length, step_count_at, step_count, steps_length, sheet_length, first_step, sheet_steps, plan_in}
use Rattle.plan_sheets.proofs.ReadingLaws.{one_failed}
use Rattle.plan_sheets.specs.InnerPlanSheets.{first_numbers, disk_bytes, wanted_bytes, sections_of, EditionFits, First, Second, Third, plan_head, step_bytes, steps_bytes, plan_sheet}

-- ------------------------------------------------------------------
-- The steps

-- A step is 3 bytes
length_step_bytes : (step : Step) → length (step_bytes step) ≡ 3
length_step_bytes (Clear t) = refl
length_step_bytes (Copy t s) = refl
length_step_bytes (Add t s) = refl

-- Steps are 3 bytes each
pub length_steps_bytes : (steps : List Step) → length (steps_bytes steps) ≡ steps_length (length steps)
unfolding steps_bytes
length_steps_bytes [] = refl
length_steps_bytes (step ∷ steps) =
    omega (arith, length-append (step_bytes step) (steps_bytes steps), length_step_bytes step, length_steps_bytes steps)

-- The bytes of steps behind others stand behind theirs
pub steps_bytes_append : (xs ys : List Step) → steps_bytes (xs ++ ys) ≡ steps_bytes xs ++ steps_bytes ys
unfolding steps_bytes
steps_bytes_append [] ys = refl
steps_bytes_append (step ∷ steps) ys =
    ap (λ (b : List ℕ). step_bytes step ++ b) (steps_bytes_append steps ys)
    ∙ sym (append_assoc (step_bytes step) (steps_bytes steps) (steps_bytes ys))

-- The first 3 bytes are read as the step that they were written from
step_read_back : (step : Step) (bytes : List ℕ) → step_of (first_step (step_bytes step ++ bytes)) ≡ step
step_read_back (Clear t) bytes = refl
step_read_back (Copy t s) bytes = refl
step_read_back (Add t s) bytes = refl

-- and the others stand behind them
pub behind_first_step : (step : Step) (bytes : List ℕ) → drop 3 (step_bytes step ++ bytes) ≡ bytes
behind_first_step (Clear t) bytes = refl
behind_first_step (Copy t s) bytes = refl
behind_first_step (Add t s) bytes = refl

-- Steps are read back from their bytes
steps_read_back : (steps : List Step) → map step_of (sheet_steps (length steps) (steps_bytes steps)) ≡ steps
unfolding steps_bytes sheet_steps
steps_read_back [] = refl
steps_read_back (step ∷ steps) =
    ap₂ (λ (p : Step) (ps : List Step). p ∷ ps) (step_read_back step (steps_bytes steps))
    (ap (λ (b : List ℕ). map step_of (sheet_steps (length steps) b)) (behind_first_step step (steps_bytes steps)) ∙ steps_read_back steps)

-- ------------------------------------------------------------------
-- The head

-- The numbers and the disks end where the number of wanted symbols stands
pub length_disk_bytes : (edition reads : ℕ) (failed : List ℕ) → 5 + length (disk_bytes edition reads failed) ≡ wanted_count_at edition (length failed)
length_disk_bytes edition reads failed = by_edition (eqb edition 3)
  where
    by_edition : (third : Bool) → 5 + length {A = ℕ} (cond third (reads ∷ counted failed) (get_or failed 0 0 ∷ reads ∷ [])) ≡ cond third (7 + length failed) 7
    by_edition true = omega arith
    by_edition false = refl

-- The step count stands behind the wanted symbols
pub steps_at_sections : (edition reads : ℕ) (failed wanted : List ℕ) → EditionFits edition failed wanted
    → steps_at (sections_of edition failed wanted) ≡ 5 + length (disk_bytes edition reads failed) + length (wanted_bytes edition wanted)
unfolding sections_for
steps_at_sections edition reads failed wanted (First e one none) = rw e
steps_at_sections edition reads failed wanted (Second e one) = rw e (omega arith)
steps_at_sections edition reads failed wanted (Third e) = rw e (omega arith)

-- Edition 1 has its sections whatever its bytes say
sections_first : (edition failed listed other others : ℕ) → edition ≡ 1 → sections_for edition failed listed ≡ sections_for edition other others
unfolding sections_for
sections_first edition failed listed other others e = rw e

-- and edition 2 whatever it would say of its disks
sections_second : (edition failed other listed : ℕ) → edition ≡ 2 → sections_for edition failed listed ≡ sections_for edition other listed
unfolding sections_for
sections_second edition failed other listed e = rw e

count_second : (edition failed other : ℕ) → edition ≡ 2 → wanted_count_at edition failed ≡ wanted_count_at edition other
count_second edition failed other e = rw e

failed_place_third : (edition : ℕ) (failed wanted : List ℕ) → edition ≡ 3 → (sections_of edition failed wanted).failed ≡ list_from 7 (length failed)
unfolding sections_for
failed_place_third edition failed wanted e = rw e

-- Of editions 2 and 3 the wanted symbols stand behind their number
wanted_place_second : (edition : ℕ) (failed wanted : List ℕ) → edition ≡ 2 → (sections_of edition failed wanted).wanted ≡ list_from (1 + wanted_count_at edition (length failed)) (length wanted)
unfolding sections_for
wanted_place_second edition failed wanted e = rw e

wanted_place_third : (edition : ℕ) (failed wanted : List ℕ) → edition ≡ 3 → (sections_of edition failed wanted).wanted ≡ list_from (1 + wanted_count_at edition (length failed)) (length wanted)
unfolding sections_for
wanted_place_third edition failed wanted e =
    let behind : 8 + length failed ≡ 1 + (7 + length failed) = omega arith in
    rw e (ap (λ (n : ℕ). list_from n (length wanted)) behind)

wanted_place_first : (edition : ℕ) (failed wanted : List ℕ) → edition ≡ 1 → (sections_of edition failed wanted).wanted ≡ list_from 7 0
unfolding sections_for
wanted_place_first edition failed wanted e = rw e

-- Editions 2 and 3 list the wanted symbols
listed_bytes : (edition : ℕ) (wanted : List ℕ) → eqb edition 1 ≡ false → wanted_bytes edition wanted ≡ counted wanted
listed_bytes edition wanted e = rw e

-- ------------------------------------------------------------------
-- The sheet

-- The plan that a sheet is written from
abbrev pub plan_of_parts : PlanHead → List ℕ → List ℕ → List SheetStep → Plan
plan_of_parts head failed wanted steps = record { head = head; failed = failed; wanted = wanted; steps = steps }

abbrev pub written_plan : PlanHead → List ℕ → List ℕ → List Step → Plan
written_plan head failed wanted steps = plan_of_parts head failed wanted (sheet_steps (length steps) (steps_bytes steps))

-- A list of one entry is that entry
one_entry : (list : List ℕ) → length list ≡ 1 → (get_or list 0 0 ∷ []) ≡ list
one_entry [] e = absurd (omega arith)
one_entry (entry ∷ []) e = refl
one_entry (entry ∷ (other ∷ list)) e = absurd (omega arith)

module _ (head : PlanHead) (failed wanted : List ℕ) (fits : EditionFits head.edition failed wanted) where
  -- The bytes up to the number of wanted symbols, and up to the step count
  abbrev up_to_disks : List ℕ
  up_to_disks = first_numbers head ++ disk_bytes head.edition head.reads failed

  abbrev up_to_lists : List ℕ
  up_to_lists = up_to_disks ++ wanted_bytes head.edition wanted

  pub length_up_to_disks : length up_to_disks ≡ wanted_count_at head.edition (length failed)
  length_up_to_disks = length-append (first_numbers head) (disk_bytes head.edition head.reads failed) ∙ length_disk_bytes head.edition head.reads failed

  pub length_up_to_lists : length up_to_lists ≡ steps_at (sections_of head.edition failed wanted)
  length_up_to_lists =
      omega (
        arith,
        length-append up_to_disks (wanted_bytes head.edition wanted),
        length-append (first_numbers head) (disk_bytes head.edition head.reads failed),
        steps_at_sections head.edition head.reads failed wanted fits,
      )

  -- The head is as long as its sections say
  pub length_plan_head : (steps : ℕ) → length (plan_head head failed wanted steps) ≡ head_length (sections_of head.edition failed wanted)
  unfolding plan_head
  length_plan_head steps = omega (arith, length-append up_to_lists (steps % 256 ∷ steps / 256 ∷ []), length_up_to_lists)

  module _ (steps : List Step) where
    abbrev sheet : List ℕ
    sheet = plan_sheet head failed wanted steps

    abbrev sections : Sections
    sections = sections_of head.edition failed wanted

    -- What stands behind the lists
    abbrev step_part : List ℕ
    step_part = (length steps % 256 ∷ length steps / 256 ∷ []) ++ steps_bytes steps

    -- A sheet's length is that of its head and its steps
    pub length_plan_sheet : length sheet ≡ sheet_length sections (length steps)
    unfolding plan_sheet
    length_plan_sheet =
        omega (arith, length-append (plan_head head failed wanted (length steps)) (steps_bytes steps), length_plan_head (length steps), length_steps_bytes steps)

    -- It tells its head
    pub head_plan_sheet : head_in sheet ≡ head
    unfolding plan_sheet plan_head
    head_plan_sheet = ap (λ (reads : ℕ). record { count = head.count; edition = head.edition; disks = head.disks; height = head.height; data_symbols = head.data_symbols; reads = reads }) (by_edition (eqb head.edition 3))
      where
        by_edition : (third : Bool)
            → get_or (first_numbers head ++ cond third (head.reads ∷ counted failed) (get_or failed 0 0 ∷ head.reads ∷ []) ++ wanted_bytes head.edition wanted ++ (length steps % 256 ∷ length steps / 256 ∷ []) ++ steps_bytes steps) (cond third 5 6) 0
            ≡ head.reads
        by_edition true = refl
        by_edition false = refl

    -- Its parts
    lists_and_steps : sheet ≡ up_to_lists ++ step_part
    unfolding plan_sheet plan_head
    lists_and_steps = append_assoc up_to_lists (length steps % 256 ∷ length steps / 256 ∷ []) (steps_bytes steps)

    disks_and_rest : sheet ≡ up_to_disks ++ (wanted_bytes head.edition wanted ++ step_part)
    disks_and_rest = lists_and_steps ∙ append_assoc up_to_disks (wanted_bytes head.edition wanted) step_part

    -- In editions 2 and 3 the number of wanted symbols stands behind the disks
    wanted_counted : wanted_bytes head.edition wanted ≡ counted wanted → get_or sheet (wanted_count_at head.edition (length failed)) 0 ≡ length wanted
    wanted_counted listed =
        ap (λ (l : List ℕ). get_or l (wanted_count_at head.edition (length failed)) 0) (disks_and_rest ∙ ap (λ (l : List ℕ). up_to_disks ++ (l ++ step_part)) listed)
        ∙ get_or_at up_to_disks (length wanted) (wanted ++ step_part) 0 (wanted_count_at head.edition (length failed)) length_up_to_disks

    -- and the wanted symbols behind their number
    wanted_behind : wanted_bytes head.edition wanted ≡ counted wanted → take (length wanted) (drop (1 + wanted_count_at head.edition (length failed)) sheet) ≡ wanted
    wanted_behind listed =
        ap (λ (l : List ℕ). take (length wanted) (drop (1 + wanted_count_at head.edition (length failed)) l))
        (disks_and_rest ∙ ap (λ (l : List ℕ). up_to_disks ++ (l ++ step_part)) listed ∙ sym (append_snoc up_to_disks (length wanted) (wanted ++ step_part)))
        ∙ ap (take (length wanted))
        (drop_at (up_to_disks ++ (length wanted ∷ [])) (wanted ++ step_part) (1 + wanted_count_at head.edition (length failed)) (omega (arith, length-append up_to_disks (length wanted ∷ []), length_up_to_disks)))
        ∙ take_at wanted step_part (length wanted) refl

    -- It tells its edition
    edition_byte : get_or sheet 1 0 ≡ head.edition
    unfolding plan_sheet plan_head
    edition_byte = refl

    -- In edition 3 the disks stand behind the read count and their number
    disks_third : head.edition ≡ 3 → up_to_disks ≡ first_numbers head ++ (head.reads ∷ length failed ∷ []) ++ failed
    disks_third e = rw e

    sheet_third : head.edition ≡ 3 → sheet ≡ first_numbers head ++ (head.reads ∷ length failed ∷ []) ++ (failed ++ (wanted_bytes head.edition wanted ++ step_part))
    sheet_third e =
        disks_and_rest
        ∙ ap (λ (l : List ℕ). l ++ (wanted_bytes head.edition wanted ++ step_part)) (disks_third e)
        ∙ append_assoc (first_numbers head ++ (head.reads ∷ length failed ∷ [])) failed (wanted_bytes head.edition wanted ++ step_part)

    -- In editions 1 and 2 the disk stands behind the first numbers
    disk_byte : eqb head.edition 3 ≡ false → take 1 (drop 5 sheet) ≡ get_or failed 0 0 ∷ []
    unfolding plan_sheet plan_head
    disk_byte e = rw e

    -- It tells where its lists lie
    pub sections_plan_sheet : sections_in sheet ≡ sections
    sections_plan_sheet = ap (λ (edition : ℕ). sections_for edition (get_or sheet 6 0) (get_or sheet (wanted_count_at edition (get_or sheet 6 0)) 0)) edition_byte ∙ by_edition fits
      where
        by_edition : EditionFits head.edition failed wanted
            → sections_for head.edition (get_or sheet 6 0) (get_or sheet (wanted_count_at head.edition (get_or sheet 6 0)) 0) ≡ sections
        by_edition (First e one none) = sections_first head.edition _ _ _ _ e
        by_edition (Second e one) =
            ap (λ (n : ℕ). sections_for head.edition (get_or sheet 6 0) (get_or sheet n 0)) (count_second head.edition (get_or sheet 6 0) (length failed) e)
            ∙ ap (sections_for head.edition (get_or sheet 6 0)) (wanted_counted (listed_bytes head.edition wanted (ap (λ (n : ℕ). eqb n 1) e)))
            ∙ sections_second head.edition (get_or sheet 6 0) (length failed) (length wanted) e
        by_edition (Third e) =
            ap (λ (n : ℕ). sections_for head.edition n (get_or sheet (wanted_count_at head.edition n) 0)) (ap (λ (l : List ℕ). get_or l 6 0) (sheet_third e))
            ∙ ap (sections_for head.edition (length failed)) (wanted_counted (listed_bytes head.edition wanted (ap (λ (n : ℕ). eqb n 1) e)))

    -- It tells the failed disks
    pub failed_plan_sheet : (plan_in sheet).failed ≡ failed
    failed_plan_sheet = ap (λ (s : Sections). list_at s.failed sheet) sections_plan_sheet ∙ by_edition fits
      where
        one_disk : eqb head.edition 3 ≡ false → length failed ≡ 1 → list_at sections.failed sheet ≡ failed
        one_disk other one = ap (λ (place : ListPlace). list_at place sheet) (one_failed head.edition (length failed) (length wanted) other) ∙ disk_byte other ∙ one_entry failed one

        by_edition : EditionFits head.edition failed wanted → list_at sections.failed sheet ≡ failed
        by_edition (First e one none) = one_disk (ap (λ (n : ℕ). eqb n 3) e) one
        by_edition (Second e one) = one_disk (ap (λ (n : ℕ). eqb n 3) e) one
        by_edition (Third e) =
            ap (λ (place : ListPlace). list_at place sheet) (failed_place_third head.edition failed wanted e)
            ∙ ap (λ (l : List ℕ). take (length failed) (drop 7 l)) (sheet_third e)
            ∙ take_at failed (wanted_bytes head.edition wanted ++ step_part) (length failed) refl

    -- and the wanted symbols
    pub wanted_plan_sheet : (plan_in sheet).wanted ≡ wanted
    wanted_plan_sheet = ap (λ (s : Sections). list_at s.wanted sheet) sections_plan_sheet ∙ by_edition fits
      where
        by_edition : EditionFits head.edition failed wanted → list_at sections.wanted sheet ≡ wanted
        by_edition (First e one none) = ap (λ (place : ListPlace). list_at place sheet) (wanted_place_first head.edition failed wanted e) ∙ sym none
        by_edition (Second e one) =
            ap (λ (place : ListPlace). list_at place sheet) (wanted_place_second head.edition failed wanted e)
            ∙ wanted_behind (listed_bytes head.edition wanted (ap (λ (n : ℕ). eqb n 1) e))
        by_edition (Third e) =
            ap (λ (place : ListPlace). list_at place sheet) (wanted_place_third head.edition failed wanted e)
            ∙ wanted_behind (listed_bytes head.edition wanted (ap (λ (n : ℕ). eqb n 1) e))

    -- It tells the number of its steps
    pub step_count_plan_sheet : step_count sheet ≡ length steps
    step_count_plan_sheet =
        let at = steps_at sections in
        let low = length steps % 256 in
        let high = length steps / 256 in
        ap (λ (s : Sections). step_count_at s sheet) sections_plan_sheet
        ∙ ap₂ (λ (a b : ℕ). a + 256 * b)
        (ap (λ (l : List ℕ). get_or l at 0) lists_and_steps ∙ get_or_at up_to_lists low (high ∷ steps_bytes steps) 0 at length_up_to_lists)
        (ap (λ (l : List ℕ). get_or l (at + 1) 0) (lists_and_steps ∙ sym (append_snoc up_to_lists low (high ∷ steps_bytes steps)))
        ∙ get_or_at (up_to_lists ++ (low ∷ [])) high (steps_bytes steps) 0 (at + 1) (omega (arith, length-append up_to_lists (low ∷ []), length_up_to_lists)))
        ∙ omega arith

    -- The bytes behind the head are those of the steps
    steps_in_plan_sheet : (plan_in sheet).steps ≡ sheet_steps (length steps) (steps_bytes steps)
    unfolding plan_sheet
    steps_in_plan_sheet =
        ap₂ sheet_steps step_count_plan_sheet
        (ap (λ (s : Sections). drop (head_length s) sheet) sections_plan_sheet
        ∙ drop_at (plan_head head failed wanted (length steps)) (steps_bytes steps) (head_length sections) (length_plan_head (length steps)))

    -- It tells the plan that it was written from
    pub plan_plan_sheet : plan_in sheet ≡ written_plan head failed wanted steps
    plan_plan_sheet =
        ap (λ (h : PlanHead). plan_of_parts h (plan_in sheet).failed (plan_in sheet).wanted (plan_in sheet).steps) head_plan_sheet
        ∙ ap (λ (l : List ℕ). plan_of_parts head l (plan_in sheet).wanted (plan_in sheet).steps) failed_plan_sheet
        ∙ ap₂ (plan_of_parts head failed) wanted_plan_sheet steps_in_plan_sheet

-- The steps of a plan that was written are those that were written
pub steps_of_written : (head : PlanHead) (failed wanted : List ℕ) (steps : List Step) → steps_of (written_plan head failed wanted steps) ≡ steps
steps_of_written head failed wanted steps = steps_read_back steps
