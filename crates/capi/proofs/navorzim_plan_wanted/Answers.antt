-- `capi::navorzim_plan_wanted` meets its contract: it is `plan_wanted`, and its answer goes out. Assumes nothing.
use mathlib.Core.Path.{refl}
use native.Mathlib.Omega.{arith}
use Rattle.plan_sheets.specs.InnerPlanSheets.{Second}
use Rattle.plan_requests.specs.PlanRequests.{listed_on}
use Rattle.answers.proofs.PlanLaws.{planning_out, pattern_fits}
use Rattle.capi.proofs.navorzim_plan_wanted.Goals as goal

pub out_planned-requires : goal.out_planned-requires
out_planned-requires c =
    let args = c.args in
    let answer = c.plan_wanted in
    pattern_fits args.sheet.now (λ i. omega (arith, c.type_inv.sheet i)) (listed_on args.disk args.wanted.now) (Second refl refl) args.buffer.now _
    answer.result answer.ensures.refusal answer.ensures.demand3

pub returns : goal.returns
returns c =
    let args = c.args in
    record {
      promised = planning_out args.sheet.now
          (λ i. omega (arith, c.type_inv.sheet i)) (listed_on args.disk args.wanted.now) (Second refl refl) args.buffer.now _
          c.plan_wanted.result c.out_planned.ensures (c.plan_wanted.ensures.refusal, (c.plan_wanted.ensures.buffer, (c.plan_wanted.ensures.demand3, (c.plan_wanted.ensures.exactly, (c.plan_wanted.ensures.gone, (c.plan_wanted.ensures.none_gone, (c.plan_wanted.ensures.patterns, c.plan_wanted.ensures.rules)))))));
    }
