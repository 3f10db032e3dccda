-- `priced_planner::requests::priced_test` meets its contract: planning's tests, then the states. Assumes nothing.
use mathlib.Core.Path.{sym, ap, ◌∙◌}
use lib.Dec.{ltb}
use Rattle.std.proofs.lemmas.Result.{err_from_is_err_and}
use Rattle.plan_requests.specs.PlanRequests.{listed_on_set}
use Rattle.refusals.specs.Orders.{Outcome, Fine, outcome, or_if}
use Rattle.refusals.specs.Refusals.{◌at◌}
use Rattle.priced_planner.proofs.RequestLaws.{refused_earlier, state_last}
use Rattle.priced_planner.proofs.requests.priced_test.Goals as goal

pub returns-in_err-plan_test : goal.returns-in_err-plan_test
returns-in_err-plan_test c =
    let a = c.args in
    let p = err_from_is_err_and c.from_residual.result c.from_residual.ensures.1 in
    let refused = ap outcome c.in_err-plan_test.was in
    rw (p.1, p.2)
    (sym refused ∙ refused_earlier a.code.now.layout (listed_on_set a.disks.now a.wanted.now) a.states.now a.buffer_length Fine c.plan_test.ensures _ refused)

pub first_bad_state-bad-requires : goal.first_bad_state-bad-requires
first_bad_state-bad-requires c = c.args.code.now.within.disks_to

pub returns : goal.returns
returns c =
    let a = c.args in
    let layout = a.code.now.layout in
    let bad = c.first_bad_state-bad.result in
    c.refuse_if.ensures
    ∙ ap (λ (v : Outcome). or_if v (ltb bad layout.disks) (42 at bad)) (sym (ap outcome c.in_ok-plan_test.was))
    ∙ state_last layout (listed_on_set a.disks.now a.wanted.now) a.states.now a.buffer_length Fine c.plan_test.ensures c.first_bad_state-bad.ensures
