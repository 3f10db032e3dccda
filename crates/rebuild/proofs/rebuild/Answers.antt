-- `rebuild::rebuild` meets its contract: its verdict and what it leaves are the definition's, and what is not refused is restored. Assumes nothing.
use Rattle.std.proofs.Common.{refl, sym, ap, ◌∙◌, ◌≤◌, length, arith}
use Rattle.std.proofs.lemmas.Result.{err_from_is_err_and}
use Rattle.plans.specs.Check.{as_checked}
use Rattle.plans.specs.Demand2.{DeservesAcceptance}
use Rattle.refusals.specs.Orders.{outcome}
use Rattle.refusals.proofs.OrderLaws.{refused_is_not_fine}
use Rattle.rebuild.proofs.CallLaws.{layout_within, steps_ready, faults_by_layout, left_by_part, verdict_refused, verdict_accepted, stripe_by_verdict, restored_if_fine}
use Rattle.rebuild.proofs.rebuild.Goals as goal
use Rattle.rebuild.proofs.rebuild.Goals.{In_ok-checked}

-- A plan that was accepted deserves it
deserves : (c : In_ok-checked) → DeservesAcceptance c.args.sheet.now c.args.disks.now c.args.plan.now c.in_ok-checked.field-0
deserves c = (c.check_plan-checked.ensures.demand2 _).0 (ap as_checked c.in_ok-checked.was)

-- and its steps begin within the plan sheet
head_within : (c : In_ok-checked) → c.check_plan-checked.result.head_length ≤ length c.args.plan.now
head_within c = omega (arith, (deserves c).length_fits, c.check_plan-checked.ensures.head)

pub returns-in_err-checked : goal.returns-in_err-checked
returns-in_err-checked c =
    let args = c.args in
    let gives = err_from_is_err_and c.from_residual.result c.from_residual.ensures.1 in
    let answer = verdict_refused args.sheet.now args.disks.now args.plan.now args.size args.stripe.now _ (sym c.check_plan-checked.ensures.answer ∙ ap as_checked c.in_err-checked.was) in
    rw (gives.1, gives.2)
    (record {
      answer = answer;
      stripe = stripe_by_verdict args.sheet.now args.disks.now args.plan.now args.size args.stripe.now args.stripe.now _ answer refl;
      restored = λ fine. absurd (refused_is_not_fine fine);
    })

pub slice_bounds-steps-count : goal.slice_bounds-steps-count
slice_bounds-steps-count c = head_within (goal.at.slice_bounds-steps-count c).In_ok-checked

pub slice_bounds-steps-start : goal.slice_bounds-steps-start
slice_bounds-steps-start c = head_within (goal.at.slice_bounds-steps-start c).In_ok-checked

pub symbols-requires : goal.symbols-requires
symbols-requires c =
    layout_within _ _ _ _ (deserves (goal.at.symbols-requires c).In_ok-checked) c.check_plan-checked.ensures.layout
    (λ i. omega (arith, c.type_inv.sheet i))

pub rebuild_accepted-requires : goal.rebuild_accepted-requires
rebuild_accepted-requires c =
    let told = c.check_plan-checked.ensures in
    steps_ready _ _ _ _ (deserves (goal.at.rebuild_accepted-requires c).In_ok-checked) told.layout c.symbols.ensures told.head told.steps

pub returns : goal.returns
returns c =
    let accepted = deserves (goal.at.returns c).In_ok-checked in
    let args = c.args in
    let told = c.check_plan-checked.ensures in
    let work = c.rebuild_accepted in
    let judged = faults_by_layout _ _ _ _ accepted told.layout args.size (length args.stripe.now) c.symbols.ensures work.ensures.answer in
    let left = left_by_part args.plan.now args.size args.stripe.now told.head told.steps (outcome work.result) work.ensures.stripe in
    let answer = verdict_accepted args.sheet.now args.disks.now args.plan.now args.size args.stripe.now _ (sym told.answer ∙ ap as_checked c.in_ok-checked.was) judged in record {
      answer = answer;
      stripe = stripe_by_verdict args.sheet.now args.disks.now args.plan.now args.size args.stripe.now _ (outcome work.result) answer left;
      restored = restored_if_fine args.sheet.now args.disks.now args.plan.now args.size args.stripe.now
          (λ i. omega (arith, c.type_inv.sheet i)) _ accepted (outcome work.result) _ judged left;
    }
