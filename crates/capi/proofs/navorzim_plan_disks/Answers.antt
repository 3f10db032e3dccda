-- `capi::navorzim_plan_disks` meets its contract: it is `plan_disks`, and its answer goes out. Assumes nothing.
use mathlib.Core.Path.{refl}
use native.Mathlib.Omega.{arith}
use Rattle.plan_sheets.specs.InnerPlanSheets.{Third}
use Rattle.plan_requests.specs.PlanRequests.{listed_on_set}
use Rattle.answers.proofs.PlanLaws.{planning_out, pattern_fits}
use Rattle.capi.proofs.navorzim_plan_disks.Goals as goal

pub out_planned-requires : goal.out_planned-requires
out_planned-requires c =
    let args = c.args in
    let answer = c.plan_disks in
    pattern_fits args.sheet.now (λ i. omega (arith, c.type_inv.sheet i)) (listed_on_set args.disks.now args.wanted.now) (Third refl) args.buffer.now _
    answer.result answer.ensures.refusal answer.ensures.demand3

pub returns : goal.returns
returns c =
    let kept = c.plan_disks.ensures in
    let args = c.args in
    record {
      promised = planning_out args.sheet.now
          (λ i. omega (arith, c.type_inv.sheet i)) (listed_on_set args.disks.now args.wanted.now) (Third refl) args.buffer.now _
          c.plan_disks.result c.out_planned.ensures
          (kept.refusal, (kept.buffer, (kept.demand3, (kept.exactly, (kept.gone, (kept.none_gone, (kept.patterns, kept.rules)))))));
    }
