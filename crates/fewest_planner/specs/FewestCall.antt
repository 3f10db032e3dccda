-- Fewest reads (document 02, §13), the call: "More are refused with 41, place their number, after 34, plan or no plan; else, where no plan exists, the
-- answer is as in §9. .. It is a separate call, asked and writing like planning for edition 3."
use Rattle.std.specs.Prelude.{◌≡◌, List, [], ◌∷◌, ◌++◌, ℕ, ltb, length}
use Rattle.codes.specs.declared.Layout.{Layout}
use Rattle.code_sheets.specs.CodeReading.{reading}
use Rattle.plan_requests.specs.PlanRequests.{Asked, planning_faults}
use Rattle.planning.specs.Planning.{Found, BufferLeft}
use Rattle.planning.specs.Demand3.{Promised}
use Rattle.fewest_planner.specs.FewestReads.{FewestReads, survivor_count}
use Rattle.refusals.specs.Refusals.{◌at◌}
use Rattle.refusals.specs.Orders.{Outcome, Fine, Answer, Fault, ◌gets◌, and_then, outcome_of}

-- 41: more than 16 symbols survive; the place is their number
abbrev pub survivor_faults : Layout → List ℕ → List Fault
survivor_faults layout disks = (ltb 16 (survivor_count layout disks) gets 41 at survivor_count layout disks) ∷ []

-- 7, 24, 23, 34 as for planning, then 41
abbrev pub fewest_faults : Layout → Asked → ℕ → List Fault
fewest_faults layout asked buffer_length = planning_faults layout asked buffer_length ++ survivor_faults layout asked.disks

-- Code sheet, 7, 24, 23, 34, 41
unfoldable pub fewest_verdict : List ℕ → Asked → ℕ → Outcome
fewest_verdict code_sheet asked buffer_length =
    and_then (reading code_sheet).verdict (fewest_faults (reading code_sheet).code.layout asked buffer_length)

-- Once nothing is refused, all that planning promises holds: of a plan demand 3 with the step bound, of patterns §9, and which of the two is answered when
abbrev pub AsPlanning : List ℕ → Asked → List ℕ → List ℕ → Answer Found → Type 0
AsPlanning code_sheet asked before after answer =
    fewest_verdict code_sheet asked (length before) ≡ Fine → Promised code_sheet asked before after answer

-- All that the call promises of its answer, and of the buffer before and after it
pub record PromisedFewest (code_sheet : List ℕ) (asked : Asked) (before after : List ℕ) (answer : Answer Found) : Type 0 where
  pub refusal : outcome_of answer ≡ fewest_verdict code_sheet asked (length before)
  pub buffer : BufferLeft before after answer
  pub as_planning : AsPlanning code_sheet asked before after answer
  pub fewest : FewestReads (reading code_sheet).code asked answer
