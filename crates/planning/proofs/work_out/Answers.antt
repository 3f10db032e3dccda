-- `planning::work_out` meets its contract: the work from all survivors. Assumes nothing.
use mathlib.Core.Path.{sym, ◌∙◌}
use Rattle.codes.specs.Codes.{LinearCode, linear}
use Rattle.codes.proofs.LimitLaws.{layout_within}
use Rattle.plan_requests.specs.PlanRequests.{asked_by}
use Rattle.planning.specs.Planning.{as_found}
use Rattle.planning.proofs.ResultLaws.{listed_small, disks_below, all_known}
use Rattle.refusals.specs.Orders.{Gives}
use Rattle.planning.proofs.work_out.Goals as goal

pub lost_symbols-gone-requires : goal.lost_symbols-gone-requires
lost_symbols-gone-requires c =
    let code : LinearCode = linear c.args.code.now in
    (layout_within code c.requires.within, disks_below code (asked_by c.args.request) c.requires)

pub loss_of-loss-requires : goal.loss_of-loss-requires
loss_of-loss-requires c =
    let code : LinearCode = linear c.args.code.now in
    let asked = asked_by c.args.request in (
      layout_within code c.requires.within,
      disks_below code asked c.requires 0 c.requires.disks_good.count_from,
      c.lost_symbols-gone.ensures.lost,
      listed_small code asked c.requires,
    )

pub work_from-requires : goal.work_from-requires
work_from-requires c =
    let loss = c.loss_of-loss.ensures in
    (c.requires, record { wanted_are = loss.wanted; known_survive = λ s h. sym (loss.survivors s) ∙ h })

pub returns : goal.returns
returns c =
    let code : LinearCode = linear c.args.code.now in
    let worked = c.work_from in
    all_known code (asked_by c.args.request) c.requires c.loss_of-loss.ensures.survivors c.args.buffer.now _ (Gives (as_found worked.result)) worked.ensures
