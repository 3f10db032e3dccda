-- `capi::navorzim_plan_fewest` meets its contract: it is `plan_fewest`, and its answer goes out. Assumes nothing.
use mathlib.Core.Path.{refl}
use native.Mathlib.Omega.{arith}
use Rattle.plan_sheets.specs.InnerPlanSheets.{Third}
use Rattle.plan_requests.specs.PlanRequests.{listed_on_set}
use Rattle.answers.proofs.PlanLaws.{fewest_out, fewest_fits}
use Rattle.capi.proofs.navorzim_plan_fewest.Goals as goal

pub out_planned-requires : goal.out_planned-requires
out_planned-requires c =
    let args = c.args in
    let answer = c.plan_fewest in
    fewest_fits args.sheet.now (λ i. omega (arith, c.type_inv.sheet i)) (listed_on_set args.disks.now args.wanted.now) (Third refl) args.buffer.now _
    answer.result answer.ensures.refusal answer.ensures.planning

pub returns : goal.returns
returns c =
    let args = c.args in
    record {
      promised = fewest_out args.sheet.now
          (λ i. omega (arith, c.type_inv.sheet i)) (listed_on_set args.disks.now args.wanted.now) (Third refl) args.buffer.now _
          c.plan_fewest.result c.out_planned.ensures (c.plan_fewest.ensures.refusal, (c.plan_fewest.ensures.buffer, (c.plan_fewest.ensures.planning, c.plan_fewest.ensures.fewest)));
    }
