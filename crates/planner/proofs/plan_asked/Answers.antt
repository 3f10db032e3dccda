-- `planner::plan_asked` meets its contract: the refusal, or what the work answers and leaves, which keeps demand 3. Assumes nothing.
use mathlib.Core.Path.{sym, ap, ◌∙◌}
use lib.ListN.{length}
use Rattle.std.specs.Prelude.{Ok}
use Rattle.std.proofs.lemmas.Result.{err_from_is_err_and}
use Rattle.plan_requests.specs.PlanRequests.{asked_by}
use Rattle.planning.specs.Planning.{as_found}
use Rattle.refusals.specs.Orders.{Gives, outcome}
use Rattle.code_sheets.specs.CodeReading.{CodeRead, as_read}
use Rattle.planning.proofs.CallLaws.{workable_if_fine, promised_if_unread, promised_if_refused, promised_if_fine, same_steps_if_fine}
use Rattle.planning.proofs.ResultLaws.{worked_from_all}
use Rattle.planner.proofs.plan_asked.Goals as goal

pub returns-in_err-code : goal.returns-in_err-code
returns-in_err-code c =
    let args = c.args in
    let p = err_from_is_err_and c.from_residual.result c.from_residual.ensures.1 in
    rw (p.1, p.2)
    (record {
      promised =
          promised_if_unread args.sheet.now (asked_by args.request) args.buffer.now _ (sym (ap (λ (read : CodeRead). read.verdict) c.in_err-code.ensures.answer));
      steps = tt;
    })

pub returns-in_err-plan_test : goal.returns-in_err-plan_test
returns-in_err-plan_test c =
    let args = c.args in
    let code = c.in_ok-code.code in
    let p = err_from_is_err_and c.from_residual-in_err-plan_test.result c.from_residual-in_err-plan_test.ensures.1 in
    rw (p.1, p.2)
    (record {
      promised =
          promised_if_refused args.sheet.now (asked_by args.request) args.buffer.now c.requires (as_read (Ok code)) c.in_ok-code.ensures.answer (λ fine. code.within)
          c.plan_test.ensures _ (ap outcome c.in_err-plan_test.was);
      steps = tt;
    })

pub work_out-requires : goal.work_out-requires
work_out-requires c =
    let args = c.args in
    let code = c.in_ok-code.code in
    (workable_if_fine (as_read (Ok code)) (asked_by args.request) (length args.buffer.now) (λ fine. code.within) c.requires
    (sym c.plan_test.ensures ∙ ap outcome c.in_ok-plan_test.was)).1

pub returns : goal.returns
returns c =
    let args = c.args in
    let code = c.in_ok-code.code in
    let asked = asked_by args.request in
    let fine = ap outcome c.in_ok-plan_test.was in
    let read = as_read (Ok code) in
    let workable = (workable_if_fine read asked (length args.buffer.now) (λ fine. code.within) c.requires (sym c.plan_test.ensures ∙ fine)).1 in
    let answer = Gives (as_found c.work_out.result) in
    record {
      promised =
          promised_if_fine args.sheet.now asked args.buffer.now c.requires read c.in_ok-code.ensures.answer (λ fine. code.within) c.plan_test.ensures fine answer
          (worked_from_all _ asked workable args.buffer.now _ answer c.work_out.ensures);
      steps =
          same_steps_if_fine args.sheet.now asked args.buffer.now c.requires read c.in_ok-code.ensures.answer (λ fine. code.within) c.plan_test.ensures fine _ answer
          c.work_out.ensures;
    }
