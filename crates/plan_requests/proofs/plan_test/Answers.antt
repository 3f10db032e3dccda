-- `plan_requests::plan_test` meets its contract: the asked set, then the list and the buffer. Assumes nothing.
use Rattle.std.proofs.Common.{arith}
use Rattle.std.proofs.lemmas.Result.{err_from_is_err_and}
use borrow.Author.Tests.{ltb-true}
use Rattle.bits.specs.Numerals.{numeral}
use Rattle.codes.proofs.LimitLaws.{layout_within}
use Rattle.losses.proofs.LossLaws.{lost_counted}
use Rattle.plan_requests.specs.PlanRequests.{asked_by}
use Rattle.plan_requests.proofs.VerdictLaws.{refused_early, early_fine, decided_later}
use Rattle.plan_requests.proofs.plan_test.Goals as goal

pub returns-in_err-disks_test : goal.returns-in_err-disks_test
returns-in_err-disks_test c =
    let p = err_from_is_err_and c.from_residual.result c.from_residual.ensures.1 in
    rw (p.1, p.2) (refused_early _ _ _ c.in_err-disks_test.ensures)

pub lost_symbols-gone-requires : goal.lost_symbols-gone-requires
lost_symbols-gone-requires c =
    let good = early_fine c.args.code.now.layout (asked_by c.args.request) c.args.buffer_length c.in_ok-disks_test.ensures in
    (layout_within _ c.args.code.now.within, λ i h. ltb-true _ _ (good.each_allowed i h))

pub returns : goal.returns
returns c =
    let gone = c.lost_symbols-gone in
    let within = c.args.code.now.within in
    let lost = lost_counted c.args.code.now.layout c.args.request.disks.now (omega (arith, within.symbols_to)) (numeral gone.result) gone.ensures.small gone.ensures.lost in
    decided_later _ _ _ c.in_ok-disks_test.ensures (numeral gone.result) gone.ensures.lost lost c.list_and_room_test.ensures
