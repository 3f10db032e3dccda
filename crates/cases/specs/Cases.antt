-- The worked cases that document 01 marks P, and cases of document 02, gathered in a single table under one claim, `AllRight table`.
use Rattle.std.specs.Prelude.{◌≡◌, List, [], ◌∷◌, ◌++◌, ℕ, suc, ◌≤◌, get_or, length}
use Rattle.plans.specs.Check.{checked}
use Rattle.encoding.specs.Encoding.{encoded_stripe}
use Rattle.family_codes.specs.Families.{family_code}
use Rattle.family_codes.specs.declared.Family.{Family}
use Rattle.family_codes.specs.declared.Family.TheVariants.{Liberation, RowDiagonal}
use Rattle.bits.specs.BitSets.{with}
use Rattle.fewest_planner.specs.FewestCall.{PromisedFewest}
use Rattle.desk_answers.specs.DeskAnswers.{desk_text}
use Rattle.planning.specs.Demand3.{CannotBeRebuilt, IsPlan, Promised}
use Rattle.plan_requests.specs.PlanRequests.{Asked, whole_disk, listed_on, listed_on_set, least_buffer}
use Rattle.planning.specs.Planning.{Found, APlan, APatterns}
use Rattle.rebuild.specs.Rebuild.{stripe_after}
use Rattle.refusals.specs.Refusals.{◌at◌}
use Rattle.refusals.specs.Orders.{Answer, Gives, Refuses}
use Rattle.soundness.specs.Survivors.{YesOrNo, Yes, No, TestPromised}
use Rattle.code_sheets.specs.CodeSheets.{row_bytes}
use Rattle.code_sheets.specs.CodeReading.{reading}

-- ------------------------------------------------------------------
-- Sheets

-- A code sheet by its head and rows
abbrev pub sheet : ℕ → ℕ → ℕ → ℕ → List ℕ → List ℕ
sheet n r k count rows = 4 ∷ 1 ∷ n ∷ r ∷ k ∷ count ∷ row_bytes rows

-- The square code: n 4, r 2, K 4, rows 1, 2, 4, 8, 5, 10, 9, 6
unfoldable pub square : List ℕ
square = sheet 4 2 4 8 (1 ∷ 2 ∷ 4 ∷ 8 ∷ 5 ∷ 10 ∷ 9 ∷ 6 ∷ [])

-- The plan of P2, but for its read count, the first step's kind and target, and the last source
abbrev pub square_plan : ℕ → ℕ → ℕ → ℕ → List ℕ
square_plan reads kind first last =
    6 ∷ 1 ∷ 4 ∷ 2 ∷ 4 ∷ 0 ∷ reads ∷ 4 ∷ 0 ∷ kind ∷ first ∷ 2 ∷ 2 ∷ 0 ∷ 4 ∷ 1 ∷ 1 ∷ 2 ∷ 2 ∷ 1 ∷ last ∷ []

-- A plan of disk 0 of the square code with one step
abbrev pub one_step : ℕ → ℕ → ℕ → List ℕ
one_step kind place source = 6 ∷ 1 ∷ 4 ∷ 2 ∷ 4 ∷ 0 ∷ 0 ∷ 1 ∷ 0 ∷ kind ∷ place ∷ source ∷ []

-- An edition 2 plan of disk 0 of the square code, from its read count on
abbrev pub wanted_plan : ℕ → List ℕ → List ℕ
wanted_plan reads rest = 6 ∷ 2 ∷ 4 ∷ 2 ∷ 4 ∷ 0 ∷ reads ∷ rest

-- The steps of P2 that make symbol 0: one copy, one add, with their count
abbrev pub steps_of_symbol0 : List ℕ
steps_of_symbol0 = 2 ∷ 0 ∷ 1 ∷ 0 ∷ 2 ∷ 2 ∷ 0 ∷ 4 ∷ []

-- An edition 3 plan of the square code, from its read count on
abbrev pub set_plan : ℕ → List ℕ → List ℕ
set_plan reads rest = 5 ∷ 3 ∷ 4 ∷ 2 ∷ 4 ∷ reads ∷ rest

-- Steps that make symbols 0, 1, 4 and 5, all of disks 0 and 2, with their count, but for the last source
abbrev pub steps_of_two_disks : ℕ → List ℕ
steps_of_two_disks last =
    8 ∷ 0 ∷ 1 ∷ 0 ∷ 6 ∷ 2 ∷ 0 ∷ 3 ∷ 1 ∷ 1 ∷ 7 ∷ 2 ∷ 1 ∷ 2 ∷ 1 ∷ 4 ∷ 0 ∷ 2 ∷ 4 ∷ 2 ∷ 1 ∷ 5 ∷ 1 ∷ 2 ∷ 5 ∷ last ∷ []

-- Those of them that make symbols 0 and 4, with their count
abbrev pub steps_of_symbols0_and4 : List ℕ
steps_of_symbols0_and4 = 4 ∷ 0 ∷ 1 ∷ 0 ∷ 6 ∷ 2 ∷ 0 ∷ 3 ∷ 1 ∷ 4 ∷ 0 ∷ 2 ∷ 4 ∷ 2 ∷ []

-- The set of one disk
abbrev pub alone : ℕ → List ℕ
alone disk = disk ∷ []

-- `code 4 2 4`, `disk 0`, and the answer's lines
abbrev pub square_lines : List ℕ → List ℕ
square_lines answer =
    99 ∷ 111 ∷ 100 ∷ 101 ∷ 32 ∷ 52 ∷ 32 ∷ 50 ∷ 32 ∷ 52 ∷ 10
    ∷ 100 ∷ 105 ∷ 115 ∷ 107 ∷ 32 ∷ 48 ∷ 10
    ∷ answer

-- `accepted`, `reads 3`
abbrev pub accepted_with3 : List ℕ
accepted_with3 =
    97 ∷ 99 ∷ 99 ∷ 101 ∷ 112 ∷ 116 ∷ 101 ∷ 100 ∷ 10
    ∷ 114 ∷ 101 ∷ 97 ∷ 100 ∷ 115 ∷ 32 ∷ 51 ∷ 10
    ∷ []

-- `refused 22 at 3`
abbrev pub refused22_at3 : List ℕ
refused22_at3 = 114 ∷ 101 ∷ 102 ∷ 117 ∷ 115 ∷ 101 ∷ 100 ∷ 32 ∷ 50 ∷ 50 ∷ 32 ∷ 97 ∷ 116 ∷ 32 ∷ 51 ∷ 10 ∷ []

-- A row by its bits
abbrev pub with_bits : List ℕ → ℕ
with_bits [] = 0
with_bits (bit ∷ bits) = with (with_bits bits) bit

-- ------------------------------------------------------------------
-- Claims

pub data Case : Type 0 where
  -- Encoding the data under a code sheet gives the stripe, whatever it held before
  encodes : List ℕ → ℕ → List ℕ → List ℕ → Case
  -- Checking a plan sheet for a code sheet and a set of disks answers so
  answers : List ℕ → List ℕ → List ℕ → Answer ℕ → Case
  -- A rebuild of a set of disks by a plan sheet turns the one stripe, of symbols of so many bytes, into the other
  rebuilds : List ℕ → List ℕ → List ℕ → ℕ → List ℕ → List ℕ → Case
  -- For an input the desk prints these lines, as ASCII codes
  prints : List ℕ → List ℕ → Case
  -- A family's rows, from a symbol on
  rows_from : Family → ℕ → List ℕ → Case
  -- What is asked for can't be rebuilt under a code sheet: no plan of any length would be accepted, and the pattern is a good one
  pattern_of : List ℕ → Asked → ℕ → Case
  -- Planning for a code sheet can only answer so: no other answer keeps what the call promises
  plans : List ℕ → Asked → Answer Found → Case
  -- Planning for a code sheet can only answer a plan
  plans_some : List ℕ → Asked → Case
  -- Planning with the fewest reads can only answer a plan with so many
  plans_with_reads : List ℕ → Asked → ℕ → Case
  -- The tester for survivors, of a stripe of symbols of so many bytes without a set of disks, can only answer so
  tests : List ℕ → List ℕ → ℕ → List ℕ → Answer YesOrNo → Case

-- The entries of a list from an index on, as many as there are on the right
abbrev pub From : List ℕ → ℕ → List ℕ → Type 0
From rows start [] = Unit {0}
From rows start (row ∷ more) = (get_or rows start 0 ≡ row) × From rows (suc start) more

-- The answer is a plan with this read count
abbrev pub ReadsJust : ℕ → Answer Found → Type 0
ReadsJust count (Gives (APlan plan_length reads)) = reads ≡ count
ReadsJust count (Gives (APatterns patterns)) = ⊥
ReadsJust count (Refuses refusal) = ⊥

abbrev pub Right : Case → Type 0
Right (encodes code_sheet L contents stripe) =
    (before : List ℕ) → length before ≡ length stripe → encoded_stripe code_sheet L contents before ≡ stripe
Right (answers code_sheet disks plan_sheet answer) = checked code_sheet disks plan_sheet ≡ answer
Right (rebuilds code_sheet disks plan_sheet L before after) = stripe_after code_sheet disks plan_sheet L before ≡ after
Right (prints input text) = desk_text input ≡ text
Right (rows_from family start rows) = From (family_code family).rows start rows
Right (pattern_of code_sheet asked pattern) = CannotBeRebuilt (reading code_sheet).code asked pattern
Right (plans code_sheet asked answer) =
    (before after : List ℕ) (given : Answer Found) → least_buffer asked.edition ≤ length before → Promised code_sheet asked before after given → given ≡ answer
Right (plans_some code_sheet asked) =
    (before after : List ℕ) (given : Answer Found) → least_buffer asked.edition ≤ length before → Promised code_sheet asked before after given → IsPlan given
Right (plans_with_reads code_sheet asked count) =
    (before after : List ℕ) (given : Answer Found) → least_buffer asked.edition ≤ length before → PromisedFewest code_sheet asked before after given → ReadsJust count given
Right (tests code_sheet disks L stripe answer) = (given : Answer YesOrNo) → TestPromised code_sheet disks L stripe given → given ≡ answer

abbrev pub AllRight : List Case → Type 0
AllRight [] = Unit {0}
AllRight (case ∷ cases) = Right case × AllRight cases

-- ------------------------------------------------------------------
-- The table

-- P8: n 2, r 1, K 2, rows 1, 2
unfoldable pub apart : List ℕ
apart = sheet 2 1 2 2 (1 ∷ 2 ∷ [])

-- P9: n 2, r 1, K 1, rows 0, 1
unfoldable pub empty_row : List ℕ
empty_row = sheet 2 1 1 2 (0 ∷ 1 ∷ [])

-- Two disks of two symbols, rows 1, 2, 1, 0: of disk 0, row 0 stands on disk 1 too, and nothing of row 1
unfoldable pub half : List ℕ
half = sheet 2 2 2 4 (1 ∷ 2 ∷ 1 ∷ 0 ∷ [])

-- Document 01
abbrev pub rules_cases : List Case
rules_cases =
    -- P1
    encodes square 1 (0x11 ∷ 0x22 ∷ 0x44 ∷ 0x88 ∷ []) (0x11 ∷ 0x22 ∷ 0x44 ∷ 0x88 ∷ 0x55 ∷ 0xAA ∷ 0x99 ∷ 0x66 ∷ [])
    -- P2: accepted, 3 reads
    ∷ answers square (alone 0) (square_plan 3 1 0 7) (Gives 3)
    -- .. run on P1 with the first two bytes FF FF it gives P1 back
    ∷ rebuilds square (alone 0) (square_plan 3 1 0 7) 1
    (0xFF ∷ 0xFF ∷ 0x44 ∷ 0x88 ∷ 0x55 ∷ 0xAA ∷ 0x99 ∷ 0x66 ∷ [])
    (0x11 ∷ 0x22 ∷ 0x44 ∷ 0x88 ∷ 0x55 ∷ 0xAA ∷ 0x99 ∷ 0x66 ∷ [])
    -- .. and the desk prints `code 4 2 4`, `disk 0`, `accepted`, `reads 3`, each on a line, and nothing else
    ∷ prints (0 ∷ 70 ∷ 0 ∷ square ++ square_plan 3 1 0 7) (square_lines accepted_with3)
    -- .. for a refusal the last two lines are one, as `refused 22 at 3`
    ∷ prints (0 ∷ 70 ∷ 0 ∷ square ++ square_plan 4 1 0 7) (square_lines refused22_at3)
    -- P3: count 4
    ∷ answers square (alone 0) (square_plan 4 1 0 7) (Refuses (22 at 3))
    -- P4: last source 06. Row 1 ends wrong, and data symbol 0 is off (document 02, §7)
    ∷ answers square (alone 0) (square_plan 3 1 0 6) (Refuses (21 at 64))
    -- P5: first kind 2
    ∷ answers square (alone 0) (square_plan 3 2 0 7) (Refuses (19 at 0))
    -- P6: first target 02
    ∷ answers square (alone 0) (square_plan 3 1 2 7) (Refuses (18 at 0))
    -- P7: no steps
    ∷ answers square (alone 0) (6 ∷ 1 ∷ 4 ∷ 2 ∷ 4 ∷ 0 ∷ 3 ∷ 0 ∷ 0 ∷ []) (Refuses (20 at 0))
    -- P8: no plan; the pattern is 1
    ∷ pattern_of apart (whole_disk 0) 1
    -- .. and planning answers it, and d is 1 (document 02, §9)
    ∷ plans apart (whole_disk 0) (Gives (APatterns (1 ∷ [])))
    -- P9: one clear, 0 reads
    ∷ answers empty_row (alone 0) (6 ∷ 1 ∷ 2 ∷ 1 ∷ 1 ∷ 0 ∷ 0 ∷ 1 ∷ 0 ∷ 0 ∷ 0 ∷ 0 ∷ []) (Gives 0)
    -- P10
    ∷ rows_from (RowDiagonal 3) 0 (1 ∷ 2 ∷ 4 ∷ 8 ∷ 5 ∷ 10 ∷ 11 ∷ 6 ∷ [])
    -- P11: row 31 has bits 1, 7, 13, 18, 19, 20; row 34 has bits 4, 5, 10, 11, 17, 23
    ∷ rows_from (Liberation 5 5) 31 (with_bits (1 ∷ 7 ∷ 13 ∷ 18 ∷ 19 ∷ 20 ∷ []) ∷ [])
    ∷ rows_from (Liberation 5 5) 34 (with_bits (4 ∷ 5 ∷ 10 ∷ 11 ∷ 17 ∷ 23 ∷ []) ∷ [])
    ∷ []

-- Document 02, §3: disk 0 of the square code, whose symbols are 0 and 1, with a list of wanted symbols
abbrev pub wanted_cases : List Case
wanted_cases =
    -- symbol 0 alone: accepted, 2 reads
    answers square (alone 0) (wanted_plan 2 (1 ∷ 0 ∷ steps_of_symbol0)) (Gives 2)
    -- .. and symbol 1, lost and not wanted, keeps its byte
    ∷ rebuilds square (alone 0) (wanted_plan 2 (1 ∷ 0 ∷ steps_of_symbol0)) 1
    (0xFF ∷ 0xEE ∷ 0x44 ∷ 0x88 ∷ 0x55 ∷ 0xAA ∷ 0x99 ∷ 0x66 ∷ [])
    (0x11 ∷ 0xEE ∷ 0x44 ∷ 0x88 ∷ 0x55 ∷ 0xAA ∷ 0x99 ∷ 0x66 ∷ [])
    -- a target that isn't wanted
    ∷ answers square (alone 0) (wanted_plan 2 (1 ∷ 1 ∷ steps_of_symbol0)) (Refuses (18 at 0))
    -- a source that is lost and not wanted
    ∷ answers square (alone 0) (wanted_plan 2 (1 ∷ 0 ∷ 1 ∷ 0 ∷ 1 ∷ 0 ∷ 1 ∷ [])) (Refuses (19 at 0))
    -- row 1 is wanted: never filled, and ending wrong
    ∷ answers square (alone 0) (wanted_plan 0 (1 ∷ 1 ∷ 0 ∷ 0 ∷ [])) (Refuses (20 at 1))
    ∷ answers square (alone 0) (wanted_plan 1 (1 ∷ 1 ∷ 1 ∷ 0 ∷ 1 ∷ 1 ∷ 3 ∷ [])) (Refuses (21 at 65))
    -- lists: none, more than r, an equal neighbour, a falling one, a symbol of another disk
    ∷ answers square (alone 0) (wanted_plan 2 (0 ∷ 0 ∷ 0 ∷ [])) (Refuses (23 at 0))
    ∷ answers square (alone 0) (wanted_plan 2 (3 ∷ 0 ∷ 0 ∷ 1 ∷ 0 ∷ 0 ∷ [])) (Refuses (23 at 0))
    ∷ answers square (alone 0) (wanted_plan 2 (2 ∷ 0 ∷ 0 ∷ 0 ∷ 0 ∷ [])) (Refuses (23 at 1))
    ∷ answers square (alone 0) (wanted_plan 2 (2 ∷ 1 ∷ 0 ∷ 0 ∷ 0 ∷ [])) (Refuses (23 at 1))
    ∷ answers square (alone 0) (wanted_plan 2 (1 ∷ 2 ∷ 0 ∷ 0 ∷ [])) (Refuses (23 at 0))
    -- the order: a list beyond the sheet's end, then 1,025 steps, then the list
    ∷ answers square (alone 0) (wanted_plan 2 (200 ∷ 1 ∷ 0 ∷ 1 ∷ 4 ∷ [])) (Refuses (11 at 0))
    ∷ answers square (alone 0) (wanted_plan 2 (2 ∷ 1 ∷ 0 ∷ 1 ∷ 4 ∷ [])) (Refuses (13 at 0))
    -- another edition
    ∷ answers square (alone 0) (6 ∷ 3 ∷ 4 ∷ 2 ∷ 4 ∷ 0 ∷ 2 ∷ 0 ∷ 0 ∷ []) (Refuses (14 at 0))
    -- of a disk that can't be rebuilt whole, the row that can
    ∷ plans_some half (listed_on 0 (0 ∷ []))
    ∷ []

-- Document 02, §6: steps onto themselves
abbrev pub onto_itself_cases : List Case
onto_itself_cases =
    -- P2 with last source 01, which is its target
    answers square (alone 0) (square_plan 3 1 0 1) (Refuses (25 at 3))
    -- a copy and an add of an unfilled place
    ∷ answers square (alone 0) (one_step 1 0 0) (Refuses (25 at 0))
    ∷ answers square (alone 0) (one_step 2 1 1) (Refuses (25 at 0))
    -- a symbol that survives is no target
    ∷ answers square (alone 0) (one_step 1 2 2) (Refuses (18 at 0))
    -- a clear of symbol 0, source byte 0, is no such step: row 1 is never filled
    ∷ answers square (alone 0) (one_step 0 0 0) (Refuses (20 at 1))
    ∷ []

-- Document 02, §5: disks 0 and 2 of the square code, whose symbols are 0, 1, 4 and 5
abbrev pub set_cases : List Case
set_cases =
    -- both disks, accepted with 4 reads: count 0 wants all lost symbols, and so does the list of all
    answers square (0 ∷ 2 ∷ []) (set_plan 4 (2 ∷ 0 ∷ 2 ∷ 0 ∷ steps_of_two_disks 3)) (Gives 4)
    ∷ answers square (0 ∷ 2 ∷ []) (set_plan 4 (2 ∷ 0 ∷ 2 ∷ 4 ∷ 0 ∷ 1 ∷ 4 ∷ 5 ∷ steps_of_two_disks 3)) (Gives 4)
    -- .. and run on P1 with both strips ruined it gives P1 back
    ∷ rebuilds square (0 ∷ 2 ∷ []) (set_plan 4 (2 ∷ 0 ∷ 2 ∷ 0 ∷ steps_of_two_disks 3)) 1
    (0xFF ∷ 0xFF ∷ 0x44 ∷ 0x88 ∷ 0xFF ∷ 0xFF ∷ 0x99 ∷ 0x66 ∷ [])
    (0x11 ∷ 0x22 ∷ 0x44 ∷ 0x88 ∷ 0x55 ∷ 0xAA ∷ 0x99 ∷ 0x66 ∷ [])
    -- a symbol of each disk: accepted, 3 reads, and the others keep their bytes
    ∷ answers square (0 ∷ 2 ∷ []) (set_plan 3 (2 ∷ 0 ∷ 2 ∷ 2 ∷ 0 ∷ 4 ∷ steps_of_symbols0_and4)) (Gives 3)
    ∷ rebuilds square (0 ∷ 2 ∷ []) (set_plan 3 (2 ∷ 0 ∷ 2 ∷ 2 ∷ 0 ∷ 4 ∷ steps_of_symbols0_and4)) 1
    (0xFF ∷ 0x77 ∷ 0x44 ∷ 0x88 ∷ 0xFF ∷ 0x77 ∷ 0x99 ∷ 0x66 ∷ [])
    (0x11 ∷ 0x77 ∷ 0x44 ∷ 0x88 ∷ 0x55 ∷ 0x77 ∷ 0x99 ∷ 0x66 ∷ [])
    -- the same steps, where all are wanted, and where symbol 5 is: places are symbol numbers
    ∷ answers square (0 ∷ 2 ∷ []) (set_plan 3 (2 ∷ 0 ∷ 2 ∷ 0 ∷ steps_of_symbols0_and4)) (Refuses (20 at 1))
    ∷ answers square (0 ∷ 2 ∷ []) (set_plan 3 (2 ∷ 0 ∷ 2 ∷ 3 ∷ 0 ∷ 4 ∷ 5 ∷ steps_of_symbols0_and4)) (Refuses (20 at 5))
    -- last source 02: symbol 5 ends wrong, and data symbol 2 is off
    ∷ answers square (0 ∷ 2 ∷ []) (set_plan 4 (2 ∷ 0 ∷ 2 ∷ 0 ∷ steps_of_two_disks 2)) (Refuses (21 at 322))
    -- a symbol that survives between the two is no target, and can't be wanted
    ∷ answers square (0 ∷ 2 ∷ []) (set_plan 0 (2 ∷ 0 ∷ 2 ∷ 0 ∷ 1 ∷ 0 ∷ 0 ∷ 2 ∷ 0 ∷ [])) (Refuses (18 at 0))
    ∷ answers square (0 ∷ 2 ∷ []) (set_plan 0 (2 ∷ 0 ∷ 2 ∷ 2 ∷ 0 ∷ 2 ∷ 0 ∷ 0 ∷ [])) (Refuses (23 at 1))
    -- asked about another set, or about one of the two; an edition 1 sheet asked about two disks
    ∷ answers square (0 ∷ 1 ∷ []) (set_plan 4 (2 ∷ 0 ∷ 2 ∷ 0 ∷ steps_of_two_disks 3)) (Refuses (16 at 0))
    ∷ answers square (alone 0) (set_plan 4 (2 ∷ 0 ∷ 2 ∷ 0 ∷ steps_of_two_disks 3)) (Refuses (16 at 0))
    ∷ answers square (0 ∷ 2 ∷ []) (square_plan 3 1 0 7) (Refuses (16 at 0))
    -- asked about no set: a disk beyond the last, none, an equal neighbour, more than n
    ∷ answers square (4 ∷ 0 ∷ []) (square_plan 3 1 0 7) (Refuses (7 at 0))
    ∷ answers square [] (square_plan 3 1 0 7) (Refuses (24 at 0))
    ∷ answers square (0 ∷ 0 ∷ []) (square_plan 3 1 0 7) (Refuses (24 at 1))
    ∷ answers square (0 ∷ 1 ∷ 2 ∷ 3 ∷ 3 ∷ []) (square_plan 3 1 0 7) (Refuses (24 at 0))
    -- sheets that list no set
    ∷ answers square (alone 0) (set_plan 0 (2 ∷ 4 ∷ 0 ∷ 0 ∷ 0 ∷ 0 ∷ [])) (Refuses (7 at 0))
    ∷ answers square (alone 0) (set_plan 0 (0 ∷ 0 ∷ 0 ∷ 0 ∷ [])) (Refuses (24 at 0))
    ∷ answers square (alone 0) (set_plan 0 (2 ∷ 0 ∷ 0 ∷ 0 ∷ 0 ∷ 0 ∷ [])) (Refuses (24 at 1))
    -- the order: a list beyond the sheet's end, then 1,025 steps, then the lists
    ∷ answers square (alone 0) (set_plan 0 (1 ∷ 4 ∷ 200 ∷ 1 ∷ 4 ∷ [])) (Refuses (11 at 0))
    ∷ answers square (alone 0) (set_plan 0 (1 ∷ 4 ∷ 0 ∷ 1 ∷ 4 ∷ [])) (Refuses (13 at 0))
    ∷ answers square (alone 0) (set_plan 0 (1 ∷ 1 ∷ 1 ∷ 4 ∷ 0 ∷ 0 ∷ [])) (Refuses (16 at 0))
    -- another first count, another edition for the first count 5
    ∷ answers square (alone 0) (7 ∷ 3 ∷ 4 ∷ 2 ∷ 4 ∷ 0 ∷ 1 ∷ 0 ∷ 0 ∷ []) (Refuses (13 at 0))
    ∷ answers square (alone 0) (5 ∷ 1 ∷ 4 ∷ 2 ∷ 4 ∷ 0 ∷ 1 ∷ 0 ∷ 0 ∷ []) (Refuses (14 at 0))
    -- all disks of P9 lost: its row of no bits can be had by a clear, and its other row by no plan
    ∷ answers empty_row (0 ∷ 1 ∷ []) (5 ∷ 3 ∷ 2 ∷ 1 ∷ 1 ∷ 0 ∷ 2 ∷ 0 ∷ 1 ∷ 1 ∷ 0 ∷ 1 ∷ 0 ∷ 0 ∷ 0 ∷ 0 ∷ []) (Gives 0)
    ∷ plans_some empty_row (listed_on_set (0 ∷ 1 ∷ []) (0 ∷ []))
    ∷ pattern_of empty_row (listed_on_set (0 ∷ 1 ∷ []) []) 1
    ∷ plans empty_row (listed_on_set (0 ∷ 1 ∷ []) []) (Gives (APatterns (1 ∷ [])))
    ∷ []

-- Document 02, §9: how much is gone of the square code without disks 0 and 1
abbrev pub gone_cases : List Case
gone_cases =
    -- no plan; the pattern is 15, and d is 1
    pattern_of square (listed_on_set (0 ∷ 1 ∷ []) []) 15
    ∷ plans square (listed_on_set (0 ∷ 1 ∷ []) []) (Gives (APatterns (15 ∷ [])))
    ∷ []

-- Document 02, §8: the survivors of the square code without disk 0
abbrev pub survivor_cases : List Case
survivor_cases =
    -- those of P1's stripe can be sound, whatever stands in the lost strip
    tests square (alone 0) 1 (0x11 ∷ 0x22 ∷ 0x44 ∷ 0x88 ∷ 0x55 ∷ 0xAA ∷ 0x99 ∷ 0x66 ∷ []) (Gives Yes)
    ∷ tests square (alone 0) 1 (0xFF ∷ 0xFF ∷ 0x44 ∷ 0x88 ∷ 0x55 ∷ 0xAA ∷ 0x99 ∷ 0x66 ∷ []) (Gives Yes)
    -- with byte 4 changed they can't, and the column is 0
    ∷ tests square (alone 0) 1 (0x11 ∷ 0x22 ∷ 0x44 ∷ 0x88 ∷ 0x54 ∷ 0xAA ∷ 0x99 ∷ 0x66 ∷ []) (Gives (No 0))
    ∷ []

-- Document 02, §13: the fewest reads of the square code
abbrev pub fewest_cases : List Case
fewest_cases =
    -- for disk 0 the count is 3
    plans_with_reads square (listed_on_set (0 ∷ []) []) 3
    ∷ []

unfoldable pub table : List Case
table = rules_cases ++ wanted_cases ++ onto_itself_cases ++ set_cases ++ gone_cases ++ survivor_cases ++ fewest_cases
