-- `fewest_planner::plan_fewest` meets its contract: the refusal, or what the work answers and leaves. Assumes nothing.
use mathlib.Core.Path.{refl, sym, ap}
use Rattle.std.specs.Prelude.{Ok}
use Rattle.std.proofs.lemmas.Result.{err_from_is_err_and}
use Rattle.code_sheets.specs.CodeReading.{CodeRead, as_read}
use Rattle.plan_requests.specs.PlanRequests.{Asked, listed_on_set}
use Rattle.plan_sheets.specs.InnerPlanSheets.{Third}
use Rattle.planning.specs.Planning.{as_found}
use Rattle.refusals.specs.Orders.{Gives, outcome}
use Rattle.fewest_planner.proofs.CallLaws.{workable_if_tested, promised_if_unread, promised_if_refused, promised_if_worked}
use Rattle.fewest_planner.proofs.plan_fewest.Goals as goal

pub returns-in_err-code : goal.returns-in_err-code
returns-in_err-code c =
    let args = c.args in
    let asked : Asked = listed_on_set args.disks.now args.wanted.now in
    let p = err_from_is_err_and c.from_residual.result c.from_residual.ensures.1 in
    let promised = promised_if_unread args.sheet.now asked args.buffer.now _ (sym (ap (λ (read : CodeRead). read.verdict) c.in_err-code.ensures.answer)) in
    rw (p.1, p.2) (record { refusal = promised.refusal; buffer = promised.buffer; planning = promised.as_planning; fewest = promised.fewest })

pub fewest_test-requires : goal.fewest_test-requires
fewest_test-requires c = Third refl

pub returns-in_err-fewest_test : goal.returns-in_err-fewest_test
returns-in_err-fewest_test c =
    let args = c.args in
    let asked : Asked = listed_on_set args.disks.now args.wanted.now in
    let code = c.in_ok-code.code in
    let p = err_from_is_err_and c.from_residual-in_err-fewest_test.result c.from_residual-in_err-fewest_test.ensures.1 in
    let promised =
    promised_if_refused args.sheet.now asked args.buffer.now (Third refl) (as_read (Ok code)) c.in_ok-code.ensures.answer (λ fine. code.within)
    c.fewest_test.ensures _ (ap outcome c.in_err-fewest_test.was) in
    rw (p.1, p.2) (record { refusal = promised.refusal; buffer = promised.buffer; planning = promised.as_planning; fewest = promised.fewest })

pub work_out_fewest-requires : goal.work_out_fewest-requires
work_out_fewest-requires c =
    let args = c.args in
    let asked : Asked = listed_on_set args.disks.now args.wanted.now in
    let code = c.in_ok-code.code in
    workable_if_tested args.sheet.now asked args.buffer.now (Third refl) (as_read (Ok code)) c.in_ok-code.ensures.answer (λ fine. code.within)
    c.fewest_test.ensures (ap outcome c.in_ok-fewest_test.was)

pub returns : goal.returns
returns c =
    let args = c.args in
    let asked : Asked = listed_on_set args.disks.now args.wanted.now in
    let code = c.in_ok-code.code in
    let worked = c.work_out_fewest in
    let promised =
    promised_if_worked args.sheet.now asked args.buffer.now (Third refl) (as_read (Ok code)) c.in_ok-code.ensures.answer (λ fine. code.within)
    c.fewest_test.ensures (ap outcome c.in_ok-fewest_test.was) _ (Gives (as_found worked.result)) worked.ensures.worked worked.ensures.fewest in
    record { refusal = promised.refusal; buffer = promised.buffer; planning = promised.as_planning; fewest = promised.fewest }
