-- Fewest reads (document 02, §13): "Where at most 16 symbols survive, answer an accepted plan whose count no accepted plan of any length goes below."
-- Document 02, §3: accepted plans are those, of any edition, whose sheets want exactly the symbols that planning was asked for.
-- Free is which of the plans with the fewest reads is given, and, where no plan exists, which patterns (§9).
use Rattle.std.specs.Prelude.{List, ℕ, ◌≤◌}
use Rattle.bits.specs.Lists.{count_from}
use Rattle.codes.specs.Codes.{LinearCode, symbols}
use Rattle.codes.specs.Layouts.{symbols_of}
use Rattle.codes.specs.declared.Layout.{Layout}
use Rattle.plan_sheets.specs.PlanSheets.{Plan, steps_of}
use Rattle.plans.specs.Judgement.{survives, true_read_count}
use Rattle.plan_requests.specs.PlanRequests.{Asked}
use Rattle.planning.specs.Planning.{Found, APlan, APatterns}
use Rattle.planning.specs.Demand3.{WouldBeAccepted}
use Rattle.refusals.specs.Orders.{Answer, Gives, Refuses}

-- The true read count of a plan for a code and the loss of disks
abbrev pub read_count : LinearCode → Asked → Plan → ℕ
read_count code asked plan = true_read_count (symbols code) (survives code.layout asked.disks) (steps_of plan)

-- How many symbols survive
abbrev pub survivor_count : Layout → List ℕ → ℕ
survivor_count layout disks = count_from (survives layout disks) 0 (symbols_of layout)

-- No accepted plan of any length, of any edition, goes below this count
abbrev pub NoneReadsFewer : LinearCode → Asked → ℕ → Type 0
NoneReadsFewer code asked reads = (plan : Plan) → WouldBeAccepted code asked plan → reads ≤ read_count code asked plan

-- A plan that is answered has such a count
abbrev pub FewestReads : LinearCode → Asked → Answer Found → Type 0
FewestReads code asked (Gives (APlan plan_length reads)) = NoneReadsFewer code asked reads
FewestReads code asked (Gives (APatterns patterns)) = Unit
FewestReads code asked (Refuses refusal) = Unit
