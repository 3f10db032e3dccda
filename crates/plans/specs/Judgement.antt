-- The judgement of a plan with any number of steps (document 01, "When the desk says no" and "How tight the answers are"; document 02, §3, §5, §6 and §7):
-- 13 for the first count, 14, 15, 7 for a listed disk, 24, 16, 23; then steps in order, in each 17, 18, 25, 19; then 20 over all wanted symbols,
-- 21 over all of them, 22. Editions 1 and 2 have a list of one disk.
use Rattle.std.specs.Prelude.{◌≡◌, Bool, true, false, cond, not, ◌&&◌, ◌||◌, ℕ, suc, ◌+◌, ◌-◌, ◌*◌, ◌≤◌, eqb, leb, ltb, length, get_or}
use mathlib.Core.List.{List, [], ◌∷◌, ◌++◌, map, Memᴰ}
use Rattle.plan_sheets.specs.PlanSheets.{Plan, step_of}
use Rattle.plan_sheets.specs.declared.step.SheetStep.{SheetStep}
use Rattle.plan_sheets.specs.declared.head.PlanHead.{PlanHead}
use Rattle.codes.specs.Codes.{LinearCode}
use Rattle.codes.specs.Layouts.{symbols_of, first_symbol, disk_of}
use Rattle.codes.specs.declared.Layout.{Layout}
use Rattle.bits.specs.Lists.{first_from, count_from}
use Rattle.bits.specs.Numerals.{first_difference}
use Rattle.gf2.specs.Plans.{run, read_by_any, PlacesBelow, extend, ready, filled_after}
use Rattle.gf2.specs.declared.Step.{Step}
use Rattle.lists.specs.Lists.{GoodList, list_faults, listed, disk_faults, same, GoodDisks}
use Rattle.refusals.specs.Orders.{Fault, ◌gets◌, first_of, if_fine, Outcome, Fine, Answer, answering}
use Rattle.refusals.specs.Refusals.{◌at◌}

-- ------------------------------------------------------------------
-- Lost and surviving symbols

-- Lost are the symbols of the failed disks
abbrev pub lost : Layout → List ℕ → ℕ → Bool
lost layout disks s = ltb s (symbols_of layout) && listed disks (disk_of layout s)

-- All others survive
abbrev pub survives : Layout → List ℕ → ℕ → Bool
survives layout disks s = ltb s (symbols_of layout) && not (listed disks (disk_of layout s))

-- How many symbols are lost: of one disk r
abbrev pub lost_count : Layout → List ℕ → ℕ
lost_count layout disks = count_from (lost layout disks) 0 (symbols_of layout)

-- ------------------------------------------------------------------
-- The head

-- First count 6 goes with editions 1 and 2, 5 with edition 3
abbrev pub edition_of : ℕ → ℕ → Bool
edition_of count edition = cond (eqb count 5) (eqb edition 3) (eqb edition 1 || eqb edition 2)

-- First count (13), another edition for it (14), 15
abbrev pub head_faults : Layout → ℕ → PlanHead → List Fault
head_faults layout data_symbols head =
    (not (eqb head.count 5 || eqb head.count 6) gets 13 at 0)
    ∷ (not (edition_of head.count head.edition) gets 14 at 0)
    ∷ (not (eqb head.disks layout.disks) gets 15 at 0)
    ∷ (not (eqb head.height layout.height) gets 15 at 0)
    ∷ (not (eqb head.data_symbols data_symbols) gets 15 at 0)
    ∷ []

-- Edition 3 lists at most all disks; editions 1 and 2 have one
abbrev pub most_failed : ℕ → ℕ → ℕ
most_failed edition disks = cond (eqb edition 3) disks 1

-- 7 for a listed disk, 24, 16 if the list isn't the asked one
abbrev pub failed_faults : Layout → List ℕ → ℕ → List ℕ → List Fault
failed_faults layout disks edition failed =
    disk_faults layout.disks (most_failed edition layout.disks) failed ++ ((not (same failed disks) gets 16 at 0) ∷ [])

-- A list of failed disks that 7 and 24 have nothing against
abbrev pub GoodFailed : Layout → ℕ → List ℕ → Type 0
GoodFailed layout edition failed = GoodDisks layout.disks (most_failed edition layout.disks) failed

-- Wanted are the listed symbols, and without a list all lost ones
abbrev pub wanted_of : Layout → List ℕ → List ℕ → ℕ → Bool
wanted_of layout disks list s = cond (eqb (length list) 0) (lost layout disks s) (listed list s)

-- All other symbols of the array are kept
abbrev pub kept_of : Layout → List ℕ → List ℕ → ℕ → Bool
kept_of layout disks list s = ltb s (symbols_of layout) && not (wanted_of layout disks list s)

-- Edition 2 lists at least one symbol
abbrev pub least_wanted : ℕ → ℕ
least_wanted edition = cond (eqb edition 2) 1 0

-- Editions 2 and 3 list at most all lost ones, edition 1 none
abbrev pub most_wanted : Layout → List ℕ → ℕ → ℕ
most_wanted layout disks edition = cond (eqb edition 1) 0 (lost_count layout disks)

-- 23: a count out of these bounds, then the first entry that doesn't rise or isn't lost
abbrev pub wanted_faults : Layout → List ℕ → ℕ → List ℕ → List Fault
wanted_faults layout disks edition list =
    list_faults (least_wanted edition) (most_wanted layout disks edition) (lost layout disks) list (λ position. 23 at position)

-- A list of wanted symbols that 23 has nothing against
abbrev pub GoodWanted : Layout → List ℕ → ℕ → List ℕ → Type 0
GoodWanted layout disks edition list = GoodList (least_wanted edition) (most_wanted layout disks edition) (lost layout disks) list

-- ------------------------------------------------------------------
-- The steps

-- 17: kind above 2, a number not below N, or clear with source not 0
abbrev pub malformed : ℕ → SheetStep → Bool
malformed count s =
    ltb 2 s.kind || leb count s.target || leb count s.source || (eqb s.kind 0 && not (eqb s.source 0))

-- 25: a copy or add whose source is its target; a clear has no source
abbrev pub onto_itself : SheetStep → Bool
onto_itself s = not (eqb s.kind 0) && eqb s.source s.target

-- A step is well formed (demand 2, with document 02, §6): neither 17 nor 25 holds of it
pub record WellFormed (count : ℕ) (s : SheetStep) : Type 0 where
  pub not_malformed : malformed count s ≡ false
  pub not_onto_itself : onto_itself s ≡ false

-- Each step of a list is well formed
abbrev pub EachFormed : ℕ → List SheetStep → Type 0
EachFormed count steps = (s : SheetStep) → Memᴰ s steps → WellFormed count s

-- In each step 17, 18 (a target that isn't wanted), 25, 19 (an unfilled place is used)
abbrev pub step_faults : ℕ → (ℕ → Bool) → (ℕ → Bool) → ℕ → SheetStep → List Fault
step_faults count wanted known number s =
    (malformed count s gets 17 at number)
    ∷ (not (wanted s.target) gets 18 at number)
    ∷ (onto_itself s gets 25 at number)
    ∷ (not (ready (step_of s) known) gets 19 at number)
    ∷ []

-- A step's reading: the decoded step, or its first refusal
unfoldable pub step_reading : ℕ → (ℕ → Bool) → (ℕ → Bool) → ℕ → SheetStep → Answer Step
step_reading count wanted known number s = answering (first_of (step_faults count wanted known number s)) (step_of s)

-- Steps in order; the first faulty step ends the check, and its number is the place
unfoldable pub steps_verdict : ℕ → (ℕ → Bool) → (ℕ → Bool) → ℕ → List SheetStep → Outcome
steps_verdict count wanted known number [] = Fine
steps_verdict count wanted known number (s ∷ steps) =
    let here = first_of (step_faults count wanted known number s) in
    if_fine here (steps_verdict count wanted (extend known s.target) (suc number) steps) here

-- ------------------------------------------------------------------
-- The end

-- The true read count: the distinct surviving symbols named as a source by any copy or add
abbrev pub true_read_count : ℕ → (ℕ → Bool) → List Step → ℕ
true_read_count count survives steps = count_from (λ s. survives s && read_by_any s steps) 0 count

-- A place that is never filled
abbrev pub never_filled : (ℕ → Bool) → List Step → ℕ → Bool
never_filled survives steps s = not (filled_after survives steps s)

-- A place that ends wrong: run on the code's rows, the steps don't give the symbol's own row
abbrev pub ends_wrong : List ℕ → List Step → ℕ → Bool
ends_wrong rows steps s = not (eqb (get_or (run steps rows) s 0) (get_or rows s 0))

-- The lowest wanted symbol at which a test holds; the number of symbols where there is none
abbrev pub lowest_wanted : ℕ → (ℕ → Bool) → (ℕ → Bool) → ℕ
lowest_wanted count wanted test = first_from (λ s. wanted s && test s) 0 count

-- The lowest data symbol in which the row that the steps make and the symbol's own differ
abbrev pub lowest_off : List ℕ → List Step → ℕ → ℕ
lowest_off rows steps s = first_difference (get_or (run steps rows) s 0) (get_or rows s 0)

-- So many places has a row where a data symbol is named besides: rows of code sheet edition 1 have 64 bits
abbrev pub places_per_row : ℕ
places_per_row = 64

-- 20 over all wanted symbols, 21 over all of them, 22. Places count from the origin; 21 names a data symbol besides
abbrev pub end_order : ℕ → ℕ → ℕ → ℕ → ℕ → ℕ → ℕ → List Fault
end_order count origin unfilled wrong off stated true_count =
    (ltb unfilled count gets 20 at unfilled - origin)
    ∷ (ltb wrong count gets 21 at (wrong - origin) * places_per_row + off)
    ∷ (not (eqb stated true_count) gets 22 at true_count)
    ∷ []

abbrev pub end_faults : List ℕ → ℕ → (ℕ → Bool) → (ℕ → Bool) → ℕ → List Step → ℕ → List Fault
end_faults rows count survives wanted origin steps stated =
    let unfilled = lowest_wanted count wanted (never_filled survives steps) in
    let wrong = lowest_wanted count wanted (ends_wrong rows steps) in
    end_order count origin unfilled wrong (lowest_off rows steps wrong) stated (true_read_count count survives steps)

-- ------------------------------------------------------------------
-- The judgement

-- The sets that a plan is judged by: both hold symbols of the array, no symbol is in both, and no wanted one lies before the origin
pub record SetsWithin (count : ℕ) (survives wanted : ℕ → Bool) (origin : ℕ) : Type 0 where
  pub survives_below : PlacesBelow count survives
  pub wanted_below : PlacesBelow count wanted
  pub wanted_lost : (s : ℕ) → wanted s ≡ true → survives s ≡ false
  pub wanted_from : (s : ℕ) → wanted s ≡ true → origin ≤ s
  pub origin_to : origin ≤ count

-- What follows the head: the steps, then the end. Of `count` symbols some survive and some are wanted
unfoldable pub judgement : List ℕ → ℕ → (ℕ → Bool) → (ℕ → Bool) → ℕ → List SheetStep → ℕ → Outcome
judgement rows count survives wanted origin steps stated =
    let ran = steps_verdict count wanted survives 0 steps in
    if_fine ran (first_of (end_faults rows count survives wanted origin (map step_of steps) stated)) ran

-- Where places count from: in editions 1 and 2 they are rows of the failed disk, in edition 3 symbol numbers
abbrev pub origin_of : Layout → List ℕ → ℕ → ℕ
origin_of layout disks edition = cond (eqb edition 3) 0 (first_symbol layout (get_or disks 0 0))

-- What follows the head of a plan, judged by the sets of its disks and its list
unfoldable pub body_verdict : LinearCode → List ℕ → Plan → Outcome
body_verdict code disks plan =
    let layout = code.layout in
    judgement code.rows (symbols_of layout) (survives layout disks) (wanted_of layout disks plan.wanted) (origin_of layout disks plan.head.edition) plan.steps plan.head.reads

-- The head of a plan and its lists
abbrev pub plan_faults : LinearCode → List ℕ → Plan → List Fault
plan_faults code disks plan =
    let layout = code.layout in
    let edition = plan.head.edition in
    head_faults layout code.data_symbols plan.head ++ failed_faults layout disks edition plan.failed ++ wanted_faults layout disks edition plan.wanted

-- Every rule of the check, the sheet's length and the step limit left aside: the head and its lists, the steps and the end
unfoldable pub plan_verdict : LinearCode → List ℕ → Plan → Outcome
plan_verdict code disks plan =
    let head = first_of (plan_faults code disks plan) in
    if_fine head (body_verdict code disks plan) head
