-- `planner::plan` meets its contract: an edition 1 sheet is asked for, which has no list; a number that no byte holds is no disk's. Assumes nothing.
use mathlib.Core.Path.{refl, subst}
use mathlib.Core.List.{[], ◌∷◌}
use Prim.Native.Nat.{ℕ}
use native.Mathlib.Omega.{arith}
use Rattle.code_sheets.proofs.ReadingLaws.{code_within_limits}
use Rattle.lists.specs.Lists.{disk_byte}
use Rattle.plan_sheets.specs.InnerPlanSheets.{First}
use Rattle.planning.specs.Planning.{as_planned}
use Rattle.planning.specs.Demand3.{Promised}
use Rattle.planning.proofs.CallLaws.{promised_by_byte}
use Rattle.planner.proofs.plan.Goals as goal

pub plan_asked-requires : goal.plan_asked-requires
plan_asked-requires c = First refl refl refl

pub returns : goal.returns
returns c =
    let args = c.args in
    let told = c.plan_asked in
    let answer = as_planned told.result in
    let by_byte : Promised args.sheet.now (record { edition = 1; disks = disk_byte args.disk ∷ []; wanted = [] }) args.buffer.now told.new.buffer answer =
    subst (λ (d : ℕ). Promised args.sheet.now (record { edition = 1; disks = d ∷ []; wanted = [] }) args.buffer.now told.new.buffer answer) c.disk_byte.ensures told.ensures.promised in
    let promised =
    promised_by_byte args.sheet.now (code_within_limits args.sheet.now (λ i. omega (arith, c.type_inv.sheet i))) 1 args.disk [] args.buffer.now _ answer by_byte in
    record { refusal = promised.refusal; buffer = promised.buffer; demand3 = promised.demand3; exactly = promised.exactly; gone = promised.gone; none_gone = promised.none_gone; patterns = promised.patterns; rules = promised.rules }
