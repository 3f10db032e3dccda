-- `capi::navorzim_plan_priced` meets its contract: it is `plan_priced` with the states that were told, and its answer goes out. Assumes nothing.
use mathlib.Core.Path.{subst}
use mathlib.Core.List.{List}
use native.Mathlib.Omega.{arith}
use Rattle.answers.specs.PricedAnswers.{PricedOut}
use Rattle.answers.proofs.PricedOutLaws.{priced_fits, priced_out}
use Rattle.plan_requests.specs.PlanRequests.{listed_on_set}
use Rattle.prices.specs.Kinds.{NoStateWhereMissing}
use Rattle.prices.specs.declared.DiskState.{DiskState}
use Rattle.capi.proofs.navorzim_plan_priced.Goals as goal

pub out_priced-requires : goal.out_priced-requires
out_priced-requires c =
    let a = c.args in
    let promised = c.plan_priced.ensures in
    priced_fits a.sheet.now (λ i. omega (arith, c.type_inv.sheet i)) a.disks.now a.wanted.now c.states_told-states.result
    a.buffer.now _ c.plan_priced.result promised.refusal promised.as_planning

pub returns : goal.returns
returns c =
    let a = c.args in
    let told = c.states_told-states in
    let after = c.plan_priced.new.buffer in record {
      promised = subst (λ (states : List DiskState). PricedOut a.sheet.now (listed_on_set a.disks.now a.wanted.now) states a.buffer.now after c.out_priced.result) told.ensures.told
          (priced_out a.sheet.now (λ i. omega (arith, c.type_inv.sheet i)) a.disks.now a.wanted.now told.result a.buffer.now after
          c.plan_priced.result c.out_priced.ensures (c.plan_priced.ensures.refusal, (c.plan_priced.ensures.buffer, (c.plan_priced.ensures.wanted, (c.plan_priced.ensures.as_planning, (c.plan_priced.ensures.exactly, c.plan_priced.ensures.by_swaps))))));
      missing = subst (NoStateWhereMissing a.kinds.now a.prices.now a.factors.now) told.ensures.told told.ensures.missing;
    }
