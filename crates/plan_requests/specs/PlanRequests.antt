-- Plan (document 01; document 02, §3 and §5), what is asked and what is refused: code sheet, 7, 24, 23, 34.
use Rattle.std.specs.Prelude.{Bool, cond, List, [], ◌∷◌, ◌++◌, ℕ, eqb, ltb}
use Rattle.codes.specs.Codes.{LinearCode}
use Rattle.codes.specs.declared.Layout.{Layout}
use Rattle.plans.specs.Check.{asked_faults}
use Rattle.plans.specs.Judgement.{wanted_of, wanted_faults}
use Rattle.refusals.specs.Orders.{Outcome, Fault, ◌gets◌, and_then}
use Rattle.refusals.specs.Refusals.{◌at◌}
use Rattle.code_sheets.specs.CodeReading.{reading}
use Rattle.plan_requests.specs.declared.PlanRequest.{PlanRequest}

-- What planning is asked: the edition of the sheet, the failed disks, and the list of wanted symbols, which edition 1 does not have
pub record Asked : Type 0 where
  pub edition : ℕ
  pub disks : List ℕ
  pub wanted : List ℕ

-- What a `PlanRequest` asks
abbrev pub asked_by : PlanRequest → Asked
asked_by request = record { edition = request.edition; disks = request.disks.now; wanted = request.wanted.now }

-- One disk without a list, an edition 1 sheet
abbrev pub whole_disk : ℕ → Asked
whole_disk disk = record { edition = 1; disks = disk ∷ []; wanted = [] }

-- One disk with a list, an edition 2 sheet
abbrev pub listed_on : ℕ → List ℕ → Asked
listed_on disk list = record { edition = 2; disks = disk ∷ []; wanted = list }

-- A set of disks with a list, which may have no entries, an edition 3 sheet
abbrev pub listed_on_set : List ℕ → List ℕ → Asked
listed_on_set disks list = record { edition = 3; disks = disks; wanted = list }

-- Wanted are the symbols of planning's list, or without one all lost ones
abbrev pub asked_symbols : LinearCode → Asked → ℕ → Bool
asked_symbols code asked = wanted_of code.layout asked.disks asked.wanted

-- The buffer for planning: 3,081 bytes, 3,114 for edition 2 and 3,210 for edition 3
abbrev pub least_buffer : ℕ → ℕ
least_buffer edition = cond (eqb edition 3) 3210 (cond (eqb edition 2) 3114 3081)

-- 34: plan buffer below so many bytes
abbrev pub room_faults : ℕ → ℕ → List Fault
room_faults edition buffer_length = (ltb buffer_length (least_buffer edition) gets 34 at 0) ∷ []

-- 7 for any disk that is asked about, 24, 23, 34. Of one disk 24 never holds, and edition 1 has no list, so that 23 never does
abbrev pub planning_faults : Layout → Asked → ℕ → List Fault
planning_faults layout asked buffer_length =
    asked_faults layout asked.disks
    ++ wanted_faults layout asked.disks asked.edition asked.wanted
    ++ room_faults asked.edition buffer_length

-- Code sheet, 7, 24, 23, 34
unfoldable pub planning_verdict : List ℕ → Asked → ℕ → Outcome
planning_verdict code_sheet asked buffer_length =
    and_then (reading code_sheet).verdict (planning_faults (reading code_sheet).code.layout asked buffer_length)
