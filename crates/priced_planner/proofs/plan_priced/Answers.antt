-- `priced_planner::plan_priced` meets its contract: the refusal, or what the work answers and leaves. Assumes nothing.
use mathlib.Core.Path.{sym, ap}
use Rattle.std.specs.Prelude.{Ok}
use Rattle.std.proofs.lemmas.Result.{err_from_is_err_and}
use Rattle.code_sheets.specs.CodeReading.{CodeRead, as_read}
use Rattle.refusals.specs.Orders.{Gives, outcome}
use Rattle.priced_planner.specs.PricedPlanner.{as_found}
use Rattle.priced_planner.proofs.CallLaws.{workable_if_tested, promised_if_unread, promised_if_refused, promised_if_fine}
use Rattle.priced_planner.proofs.plan_priced.Goals as goal

pub returns-in_err-code : goal.returns-in_err-code
returns-in_err-code c =
    let a = c.args in
    let p = err_from_is_err_and c.from_residual.result c.from_residual.ensures.1 in
    let promised = promised_if_unread a.sheet.now a.disks.now a.wanted.now a.states.now a.buffer.now _ (sym (ap (λ (read : CodeRead). read.verdict) c.in_err-code.ensures.answer)) in
    rw (p.1, p.2)
    (record { refusal = promised.refusal; buffer = promised.buffer; wanted = promised.wanted; as_planning = promised.as_planning; exactly = promised.exactly; by_swaps = promised.by_swaps })

pub returns-in_err-priced_test : goal.returns-in_err-priced_test
returns-in_err-priced_test c =
    let a = c.args in
    let code = c.in_ok-code.code in
    let p = err_from_is_err_and c.from_residual-in_err-priced_test.result c.from_residual-in_err-priced_test.ensures.1 in
    let promised =
    promised_if_refused a.sheet.now a.disks.now a.wanted.now a.states.now a.buffer.now (as_read (Ok code)) c.in_ok-code.ensures.answer (λ fine. code.within)
    c.priced_test.ensures _ (ap outcome c.in_err-priced_test.was) in
    rw (p.1, p.2)
    (record { refusal = promised.refusal; buffer = promised.buffer; wanted = promised.wanted; as_planning = promised.as_planning; exactly = promised.exactly; by_swaps = promised.by_swaps })

pub work_with_away-requires : goal.work_with_away-requires
work_with_away-requires c =
    let a = c.args in
    let code = c.in_ok-code.code in
    (workable_if_tested a.sheet.now a.disks.now a.wanted.now a.states.now a.buffer.now (as_read (Ok code)) c.in_ok-code.ensures.answer (λ fine. code.within)
    c.priced_test.ensures (ap outcome c.in_ok-priced_test.was)).1

pub returns : goal.returns
returns c =
    let a = c.args in
    let code = c.in_ok-code.code in
    let worked = c.work_with_away in
    let promised =
    promised_if_fine a.sheet.now a.disks.now a.wanted.now a.states.now a.buffer.now (as_read (Ok code)) c.in_ok-code.ensures.answer (λ fine. code.within)
    c.priced_test.ensures (ap outcome c.in_ok-priced_test.was) (Gives (as_found worked.result)) worked.ensures in
    record { refusal = promised.refusal; buffer = promised.buffer; wanted = promised.wanted; as_planning = promised.as_planning; exactly = promised.exactly; by_swaps = promised.by_swaps }
