-- Disks that cost more to read (document 02, §14), the call: "in a separate call asked like planning for edition 3, a disk is away, or idle .., or busy ..;
-- anything else refused with 42 at the lowest such disk, after 34; states for disks from n on aren't looked at. .. Once nothing is refused, an away disk not
-- asked about counts as lost and not wanted. Start from the plan that ordinary planning then gives. Each wanted symbol then has a set of survivors that XOR
-- to it. A swap XORs one such set with one equation of §8's list, worked out for the same lost disks, and is made only if it lowers the sum. The answer is
-- settled exactly when no single swap lowers the sum, else stopped, after 1,024 swaps; which ones is free. Its plan reads the symbols of the final sets and
-- no other, is an edition 3 sheet that lists the away disks among the lost and the wanted symbols one by one, is accepted when the checker is asked about
-- those lost disks, and is never dearer than the start; its sum is answered too. §9's patterns, for those lost disks, are given exactly when no plan avoids
-- the away disks."
use Rattle.std.specs.Prelude.{◌≡◌, Bool, true, false, ◌&&◌, ◌||◌, List, [], ◌∷◌, ◌++◌, ◌↔◌, ℕ, ltb, Float, length, get_or, take, Result, Ok, Err}
use Rattle.std.specs.Float.Ieee.{lt}
use Rattle.bits.specs.BitSets.{has}
use Rattle.bits.specs.Lists.{symbols_in}
use Rattle.bits.specs.Numerals.{numerals}
use Rattle.code_sheets.specs.CodeReading.{reading}
use Rattle.codes.specs.Codes.{LinearCode, symbols, matrix}
use Rattle.codes.specs.Layouts.{symbols_of, disk_of}
use Rattle.codes.specs.declared.Layout.{Layout}
use Rattle.gf2.specs.Plans.{Within, read_by_any}
use Rattle.gf2.specs.Selection.{select}
use Rattle.gf2.specs.declared.Step.{Step}
use Rattle.lists.specs.Lists.{listed}
use Rattle.plan_requests.specs.PlanRequests.{Asked, listed_on_set, asked_symbols, planning_faults}
use Rattle.plan_sheets.specs.InnerPlanSheets.{subset_plan}
use Rattle.plan_sheets.specs.PlanSheets.{Plan, plan_in, steps_of}
use Rattle.planning.specs.Demand3.{WouldBeAccepted, Promised}
use Rattle.planning.specs.InnerPlan.{steps_found}
use Rattle.planning.specs.Planning.{Found, BufferLeft}
use Rattle.planning.specs.Planning as Planning
use Rattle.plans.specs.Judgement.{survives, wanted_of}
use Rattle.prices.specs.Prices.{state_of, is_away, first_bad_state, sum_of}
use Rattle.prices.specs.declared.DiskState.{DiskState}
use Rattle.refusals.specs.Orders.{Outcome, Fine, Answer, Gives, Refuses, Fault, ◌gets◌, and_then, outcome_of}
use Rattle.refusals.specs.Refusals.{numbered, ◌at◌}
use Rattle.refusals.specs.declared.Refusal.{Refusal}
use Rattle.soundness.specs.Survivors.{survivor_equations}
use Rattle.swaps.specs.Swaps.{Terms, read_by, Settled}
use Rattle.priced_planner.specs.declared.Priced.{Priced}
use Rattle.priced_planner.specs.declared.Priced.TheVariants as Answers

-- ------------------------------------------------------------------
-- Refusals

-- 42, at the lowest disk of the array that can't be in its state
abbrev pub state_faults : Layout → List DiskState → List Fault
state_faults layout states =
    (ltb (first_bad_state states layout.disks) layout.disks gets 42 at first_bad_state states layout.disks)
    ∷ []

-- 7, 24, 23, 34 as for planning, then 42
abbrev pub priced_faults : Layout → Asked → List DiskState → ℕ → List Fault
priced_faults layout asked states buffer_length = planning_faults layout asked buffer_length ++ state_faults layout states

-- Code sheet, 7, 24, 23, 34, 42
unfoldable pub priced_verdict : List ℕ → Asked → List DiskState → ℕ → Outcome
priced_verdict code_sheet asked states buffer_length =
    and_then (reading code_sheet).verdict (priced_faults (reading code_sheet).code.layout asked states buffer_length)

-- ------------------------------------------------------------------
-- What counts as lost, and what is wanted

-- Whether a disk is lost: it is asked about, or it is one of the array's and away
abbrev pub is_lost : List ℕ → List DiskState → ℕ → ℕ → Bool
is_lost asked states disks d = listed asked d || (ltb d disks && is_away (state_of states d))

-- The lost disks, rising
abbrev pub lost_disks : Layout → List ℕ → List DiskState → List ℕ
lost_disks layout asked states = symbols_in (is_lost asked states layout.disks) 0 layout.disks

-- The wanted symbols one by one: those listed, and without a list all symbols of the disks asked about
abbrev pub wanted_list : Layout → List ℕ → List ℕ → List ℕ
wanted_list layout asked list = symbols_in (wanted_of layout asked list) 0 (symbols_of layout)

-- What is planned for: an edition 3 sheet that lists the away disks among the lost and the wanted symbols one by one
abbrev pub asked_with_away : LinearCode → Asked → List DiskState → Asked
asked_with_away code asked states = listed_on_set (lost_disks code.layout asked.disks states) (wanted_list code.layout asked.disks asked.wanted)

-- ------------------------------------------------------------------
-- What is answered

-- A plan's length and read count, its sum, and whether it is settled (true) or stopped (false); or patterns
pub data PricedFound : Type 0 where
  APlan : ℕ → ℕ → Float → Bool → PricedFound
  APatterns : List ℕ → PricedFound

-- What a `Priced` stands for
abbrev pub as_found : Priced → PricedFound
as_found (Answers.Plan plan_length reads sum settled) = APlan plan_length reads sum settled
as_found (Answers.Patterns lost) = APatterns (numerals lost.items)

-- What the result stands for
abbrev pub as_priced : Result Priced Refusal → Answer PricedFound
as_priced (Ok priced) = Gives (as_found priced)
as_priced (Err refusal) = Refuses (numbered refusal)

-- The same without the sum, as planning answers
abbrev pub unpriced : Answer PricedFound → Answer Found
unpriced (Gives (APlan plan_length reads sum settled)) = Gives (Planning.APlan plan_length reads)
unpriced (Gives (APatterns patterns)) = Gives (Planning.APatterns patterns)
unpriced (Refuses refusal) = Refuses refusal

-- ------------------------------------------------------------------
-- A plan by swaps

-- The set of a wanted symbol: survivors that XOR to it
pub record SumsTo (code : LinearCode) (disks : List ℕ) (t set : ℕ) : Type 0 where
  pub alive : Within (has set) (survives code.layout disks)
  pub sums : select (matrix code) set ≡ get_or (matrix code) t 0

-- Each wanted symbol has such a set
abbrev pub EachSumsTo : LinearCode → Asked → List ℕ → Type 0
EachSumsTo code asked sets = (t : ℕ) → asked_symbols code asked t ≡ true → SumsTo code asked.disks t (get_or sets t 0)

-- The steps from such sets: each wanted symbol is made the sum of its set
abbrev pub steps_by_sets : LinearCode → Asked → List ℕ → List Step
steps_by_sets code asked sets = subset_plan (symbols code) (asked_symbols code asked) sets

-- What steps cost: the sum for the symbols that they read
abbrev pub cost_of_steps : LinearCode → List DiskState → List Step → Float
cost_of_steps code states steps = sum_of code.layout states (λ s. read_by_any s steps)

-- The terms of the swaps: the equations are §8's list for the same lost disks
abbrev pub swap_terms : LinearCode → Asked → List DiskState → Terms
swap_terms code asked states =
    record { layout = code.layout; states = states; equations = survivor_equations code asked.disks; wanted = asked_symbols code asked }

-- What holds of the steps of a plan that is answered with this sum, settled (true) or stopped (false)
pub record BySwaps (code : LinearCode) (asked : Asked) (states : List DiskState) (steps : List Step) (sum : Float) (settled : Bool) : Type 0 where
  -- the start: the sets of the plan that ordinary planning gives
  pub start : List ℕ
  pub start_sums : EachSumsTo code asked start
  pub start_steps : steps_by_sets code asked start ≡ steps_found code asked
  -- the final sets: by swaps from the start on, settled or stopped
  pub final : List ℕ
  pub final_sums : EachSumsTo code asked final
  pub swaps : ℕ
  pub settling : Settled (swap_terms code asked states) start final sum swaps settled
  -- the plan is made from the final sets; it reads their symbols and no other
  pub final_steps : steps ≡ steps_by_sets code asked final
  pub reads_final : (s : ℕ) → read_by_any s steps ≡ has (read_by final) s
  -- its sum is answered, and it is never dearer than the start
  pub sum_is : sum ≡ cost_of_steps code states steps
  pub never_dearer : lt (cost_of_steps code states (steps_found code asked)) sum ≡ false

-- ------------------------------------------------------------------
-- Once nothing is refused

-- What is wanted is what was asked for
abbrev pub WantsAsAsked : List ℕ → Asked → List DiskState → ℕ → Type 0
WantsAsAsked code_sheet asked states buffer_length =
    priced_verdict code_sheet asked states buffer_length ≡ Fine
    → (s : ℕ) → asked_symbols (reading code_sheet).code (asked_with_away (reading code_sheet).code asked states) s ≡ asked_symbols (reading code_sheet).code asked s

-- All that planning promises holds for those lost disks: of a plan demand 3 with the step bound, the checker asked about them; of patterns §9
abbrev pub AsPlanning : List ℕ → Asked → List DiskState → List ℕ → List ℕ → Answer PricedFound → Type 0
AsPlanning code_sheet asked states before after answer =
    priced_verdict code_sheet asked states (length before) ≡ Fine
    → Promised code_sheet (asked_with_away (reading code_sheet).code asked states) before after (unpriced answer)

-- The answer is patterns
abbrev pub ArePatterns : Answer PricedFound → Type 0
ArePatterns (Gives (APlan plan_length reads sum settled)) = ⊥
ArePatterns (Gives (APatterns patterns)) = Unit
ArePatterns (Refuses refusal) = ⊥

-- A plan of any length avoids the away disks: it would be accepted for what was asked, and reads no survivor that lies on a disk that is away
pub record AvoidsAway (code : LinearCode) (asked : Asked) (states : List DiskState) (plan : Plan) : Type 0 where
  pub accepted : WouldBeAccepted code asked plan
  pub avoids : (s : ℕ) → survives code.layout asked.disks s ≡ true → read_by_any s (steps_of plan) ≡ true
      → is_away (state_of states (disk_of code.layout s)) ≡ false

-- Patterns are given exactly when no plan avoids the away disks
abbrev pub PatternsExactly : List ℕ → Asked → List DiskState → ℕ → Answer PricedFound → Type 0
PatternsExactly code_sheet asked states buffer_length answer =
    priced_verdict code_sheet asked states buffer_length ≡ Fine
    → ArePatterns answer ↔ ((plan : Plan) → AvoidsAway (reading code_sheet).code asked states plan → ⊥)

-- A plan comes by swaps. Its steps are those that the sheet at the front of the buffer tells
abbrev pub PricedBySwaps : List ℕ → Asked → List DiskState → List ℕ → Answer PricedFound → Type 0
PricedBySwaps code_sheet asked states buffer (Gives (APlan plan_length reads sum settled)) =
    BySwaps (reading code_sheet).code (asked_with_away (reading code_sheet).code asked states) states (steps_of (plan_in (take plan_length buffer))) sum settled
PricedBySwaps code_sheet asked states buffer (Gives (APatterns patterns)) = Unit
PricedBySwaps code_sheet asked states buffer (Refuses refusal) = Unit

-- ------------------------------------------------------------------
-- All that the call promises of its answer, and of the buffer before and after it

pub record PromisedPriced (code_sheet : List ℕ) (asked : Asked) (states : List DiskState) (before after : List ℕ) (answer : Answer PricedFound) : Type 0 where
  pub refusal : outcome_of answer ≡ priced_verdict code_sheet asked states (length before)
  pub buffer : BufferLeft before after (unpriced answer)
  pub wanted : WantsAsAsked code_sheet asked states (length before)
  pub as_planning : AsPlanning code_sheet asked states before after answer
  pub exactly : PatternsExactly code_sheet asked states (length before) answer
  pub by_swaps : PricedBySwaps code_sheet asked states after answer
