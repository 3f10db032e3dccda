-- `capi::navorzim_plan` meets its contract: it is `plan`, and its answer goes out. Assumes nothing.
use mathlib.Core.Path.{refl}
use native.Mathlib.Omega.{arith}
use Rattle.plan_sheets.specs.InnerPlanSheets.{First}
use Rattle.plan_requests.specs.PlanRequests.{whole_disk}
use Rattle.answers.proofs.PlanLaws.{planning_out, pattern_fits}
use Rattle.capi.proofs.navorzim_plan.Goals as goal

pub out_planned-requires : goal.out_planned-requires
out_planned-requires c =
    let args = c.args in
    let answer = c.plan in
    pattern_fits args.sheet.now (λ i. omega (arith, c.type_inv.sheet i)) (whole_disk args.disk) (First refl refl refl) args.buffer.now _
    answer.result answer.ensures.refusal answer.ensures.demand3

pub returns : goal.returns
returns c =
    let args = c.args in
    record {
      promised = planning_out args.sheet.now
          (λ i. omega (arith, c.type_inv.sheet i)) (whole_disk args.disk) (First refl refl refl) args.buffer.now _
          c.plan.result c.out_planned.ensures (c.plan.ensures.refusal, (c.plan.ensures.buffer, (c.plan.ensures.demand3, (c.plan.ensures.exactly, (c.plan.ensures.gone, (c.plan.ensures.none_gone, (c.plan.ensures.patterns, c.plan.ensures.rules)))))));
    }
