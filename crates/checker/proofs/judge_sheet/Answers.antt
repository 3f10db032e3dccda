-- `checker::judge_sheet` meets its contract: the verdict on the asked set, the one up to the lists, the one on the lists and the length, or the one
-- behind the head. Assumes nothing.
use Rattle.std.proofs.Common.{◌≡◌, refl, sym, ap, ◌∙◌, subst, ℕ, ◌≤◌, length, arith, Ok}
use Rattle.std.proofs.lemmas.Result.{err_from_is_err_and}
use borrow.Author.Tests.{ltb-true}
use Rattle.bits.specs.Numerals.{numeral}
use Rattle.codes.specs.Codes.{linear}
use Rattle.codes.proofs.LimitLaws.{layout_within}
use Rattle.code_sheets.specs.CodeReading.{as_read}
use Rattle.plan_sheets.specs.PlanSheets.{head_length, step_limit}
use Rattle.plans.specs.Judgement.{body_verdict}
use Rattle.plans.proofs.CheckLaws.{open_verdict, close_verdict, Opened, opened_if_fine, closed_if_fine, open_on_sheet, failed_good_on_sheet, close_on_sheet, plan_on_sheet, lists_on_sheet, steps_in_part, judged_asked_refused, judged_open_refused, judged_close_refused, judged_fine}
use Rattle.plans.proofs.EndLaws.{body_whatever_listed}
use Rattle.losses.proofs.LossLaws.{lost_counted}
use Rattle.refusals.specs.Orders.{Fine, outcome}
use Rattle.checker.proofs.judge_sheet.Goals as goal
use Rattle.checker.proofs.judge_sheet.Goals.{After-open_test, In_ok-open_test, After-close_test, In_ok-close_test}

-- The outcome of the tests up to the lists is that of the two sheets
opened : (c : After-open_test) → outcome c.open_test.result ≡ open_verdict (as_read (Ok c.args.code.now)) c.args.disks.now c.args.plan.now
opened c =
    open_on_sheet c.args.disks.now c.args.plan.now c.requires c.list_part-failed.ensures c.is_same-same.ensures
    (as_read (Ok c.args.code.now)) c.head_length-start.ensures c.in_ok-disks_test.ensures c.open_test.ensures

-- Where the tests up to the lists found no fault, that outcome is fine
fine_so_far : (c : In_ok-open_test) → open_verdict (as_read (Ok c.args.code.now)) c.args.disks.now c.args.plan.now ≡ Fine
fine_so_far c = sym (opened (goal.at.In_ok-open_test c).After-open_test) ∙ ap outcome c.in_ok-open_test.was

-- and the asked disks, the head and the number of steps are as they must be
known_so_far : (c : In_ok-open_test) → Opened (as_read (Ok c.args.code.now)) c.args.disks.now c.args.plan.now
known_so_far c = opened_if_fine (as_read (Ok c.args.code.now)) c.args.disks.now c.args.plan.now (fine_so_far c)

-- and the steps begin within the plan sheet
head_within : (c : In_ok-open_test) → c.head_length-start.result ≤ length c.args.plan.now
head_within c = omega (arith, c.head_length-start.ensures, ap head_length c.requires.sections_are, (known_so_far c).head_whole)

-- The outcome of the tests on the lists and the length is that of the two sheets
closed : (c : After-close_test) → outcome c.close_test.result ≡ close_verdict (linear c.args.code.now) c.args.disks.now c.args.plan.now
closed c =
    let args = c.args in
    let gone = c.lost_symbols-gone in
    let counted = lost_counted args.code.now.layout args.disks.now (omega (arith, args.code.now.within.symbols_to)) (numeral gone.result) gone.ensures.small gone.ensures.lost in
    close_on_sheet args.disks.now args.plan.now c.requires c.list_part-failed.ensures c.is_same-same.ensures (linear args.code.now) c.list_part-list.ensures
    (numeral gone.result) gone.ensures.lost refl counted c.sheet_length-whole.ensures c.close_test.ensures

-- Where those tests found no fault, that outcome is fine
closed_fine : (c : In_ok-close_test) → close_verdict (linear c.args.code.now) c.args.disks.now c.args.plan.now ≡ Fine
closed_fine c = sym (closed (goal.at.In_ok-close_test c).After-close_test) ∙ ap outcome c.in_ok-close_test.was

pub returns-in_err-disks_test : goal.returns-in_err-disks_test
returns-in_err-disks_test c =
    let gives = err_from_is_err_and c.from_residual.result c.from_residual.ensures.1 in
    rw (gives.1, gives.2) (judged_asked_refused (as_read (Ok c.args.code.now)) c.args.disks.now c.args.plan.now _ (sym c.in_err-disks_test.ensures))

pub returns-in_err-open_test : goal.returns-in_err-open_test
returns-in_err-open_test c =
    let told = opened (goal.at.returns-in_err-open_test c).After-open_test in
    let exit = c.from_residual-in_err-open_test in
    let gives = err_from_is_err_and exit.result exit.ensures.1 in
    rw (gives.1, gives.2) (judged_open_refused (as_read (Ok c.args.code.now)) c.args.disks.now c.args.plan.now _ (sym told ∙ ap outcome c.in_err-open_test.was))

pub lost_symbols-gone-requires : goal.lost_symbols-gone-requires
lost_symbols-gone-requires c =
    let good = (known_so_far (goal.at.lost_symbols-gone-requires c).In_ok-open_test).disks_read in
    (layout_within (linear c.args.code.now) c.args.code.now.within, λ i h. ltb-true _ _ (good.each_allowed i h))

pub close_test-requires : goal.close_test-requires
close_test-requires c =
    let known = known_so_far (goal.at.close_test-requires c).In_ok-open_test in
    let args = c.args in (
      omega (arith, args.code.now.within.disks_to),
      failed_good_on_sheet args.disks.now args.plan.now c.requires c.list_part-failed.ensures c.is_same-same.ensures known.disks_read,
    )

pub returns-in_err-close_test : goal.returns-in_err-close_test
returns-in_err-close_test c =
    let at = goal.at.returns-in_err-close_test c in
    let exit = c.from_residual-in_err-close_test in
    let gives = err_from_is_err_and exit.result exit.ensures.1 in
    rw (gives.1, gives.2)
    (judged_close_refused (as_read (Ok c.args.code.now)) c.args.disks.now c.args.plan.now (fine_so_far at.In_ok-open_test) _ (sym (closed at.After-close_test) ∙ ap outcome c.in_err-close_test.was))

pub slice_bounds-judge_plan-count : goal.slice_bounds-judge_plan-count
slice_bounds-judge_plan-count c = head_within (goal.at.slice_bounds-judge_plan-count c).In_ok-open_test

pub slice_bounds-judge_plan-start : goal.slice_bounds-judge_plan-start
slice_bounds-judge_plan-start c = head_within (goal.at.slice_bounds-judge_plan-start c).In_ok-open_test

pub judge_plan-requires : goal.judge_plan-requires
judge_plan-requires c =
    let at = goal.at.judge_plan-requires c in
    let args = c.args in
    let code = linear args.code.now in
    let whole = closed_if_fine code args.disks.now args.plan.now (closed_fine at.In_ok-close_test) in
    let good = lists_on_sheet args.disks.now args.plan.now c.requires c.list_part-failed.ensures c.is_same-same.ensures code c.list_part-list.ensures whole in (
      record { disks_good = good.0; gone_is = c.lost_symbols-gone.ensures.lost; list_good = good.1 },
      record {
        few = subst (λ (n : ℕ). n ≤ step_limit) (sym c.requires.steps_are) (known_so_far at.In_ok-open_test).steps_few;
        room = steps_in_part args.plan.now c.requires c.head_length-start.ensures whole.length_fits;
      },
    )

pub returns : goal.returns
returns c =
    let at = goal.at.returns c in
    let args = c.args in
    let code = linear args.code.now in
    let list = c.list_part-list in
    let failed = c.list_part-failed in
    c.judge_plan.ensures
    ∙ body_whatever_listed code args.disks.now args.head args.disks.now failed.result.now list.result.now _
    ∙ ap (body_verdict code args.disks.now)
    (plan_on_sheet args.disks.now args.plan.now c.requires failed.ensures c.is_same-same.ensures code list.ensures c.head_length-start.ensures)
    ∙ judged_fine (as_read (Ok args.code.now)) args.disks.now args.plan.now (fine_so_far at.In_ok-open_test) (closed_fine at.In_ok-close_test)
