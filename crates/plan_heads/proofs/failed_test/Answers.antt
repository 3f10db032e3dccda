-- `plan_heads::failed_test` meets its contract: good disks that are those asked have no fault. Assumes nothing.
use mathlib.Core.Path.{sym, ap}
use mathlib.Core.Bool.{not}
use mathlib.Core.List.{[], ◌∷◌, ◌++◌}
use Rattle.lists.specs.Lists.{disk_faults}
use Rattle.lists.proofs.ListLaws.{no_fault_if_good_disks}
use Rattle.plans.specs.Judgement.{most_failed}
use Rattle.refusals.specs.Orders.{◌gets◌}
use Rattle.refusals.specs.Refusals.{◌at◌}
use Rattle.refusals.proofs.OrderLaws.{none_holds_join, none_holds_means_fine}
use Rattle.plan_heads.proofs.failed_test.Goals as goal

pub returns-then-same : goal.returns-then-same
returns-then-same c =
    let args = c.args in
    let most = most_failed args.edition args.disks in
    let lists = disk_faults args.disks most args.failed.now in
    let last = (not args.same gets 16 at 0) ∷ [] in
    sym
    (none_holds_means_fine (lists ++ last)
    (none_holds_join lists last (no_fault_if_good_disks args.disks most args.failed.now (c.requires.1 c.if-same.true)) (ap not c.if-same.true, tt)))
