-- `fewest_planner::work::work_out_fewest` meets its contract: the work from a smallest set of survivors that is enough. Assumes nothing.
use mathlib.Core.Path.{sym, ◌∙◌, subst}
use native.Mathlib.Omega.{arith}
use Rattle.bits.specs.Numerals.{numeral}
use Rattle.codes.specs.Codes.{LinearCode, linear}
use Rattle.codes.proofs.LimitLaws.{layout_within}
use Rattle.gf2.specs.Selection.{Below}
use Rattle.plan_requests.specs.PlanRequests.{asked_by}
use Rattle.planning.specs.Planning.{as_found}
use Rattle.planning.proofs.ResultLaws.{listed_small, disks_below}
use Rattle.planning.proofs.RowLaws.{one_each, few}
use Rattle.planning.proofs.WorkLaws.{asked_is_lost}
use Rattle.plans.proofs.JudgementLaws.{matrix_below, survives_below, lost_below}
use Rattle.refusals.specs.Orders.{Gives}
use Rattle.fewest_planner.proofs.ReadLaws.{fewest_for, worked_fewest}
use Rattle.fewest_planner.proofs.work.work_out_fewest.Goals as goal

pub lost_symbols-gone-requires : goal.lost_symbols-gone-requires
lost_symbols-gone-requires c = (layout_within _ c.requires.within, disks_below _ _ c.requires)

pub loss_of-loss-requires : goal.loss_of-loss-requires
loss_of-loss-requires c = (
  layout_within _ c.requires.within,
  disks_below _ _ c.requires 0 c.requires.disks_good.count_from,
  c.lost_symbols-gone.ensures.lost,
  listed_small _ _ c.requires,
)

pub fewest-chosen-requires : goal.fewest-chosen-requires
fewest-chosen-requires c =
    let code : LinearCode = linear c.args.code.now in
    let disks = c.args.request.disks.now in
    let within = c.requires.within in
    let rows = c.matrix.ensures in
    let each = one_each code within _ rows in
    let loss = c.loss_of-loss.ensures in (
      few code within _ rows,
      omega (arith, within.data_to),
      subst (Below code.data_symbols) (sym rows) (matrix_below _ within),
      λ s h. omega (arith, each, survives_below code.layout disks s (sym (loss.survivors s) ∙ h)),
      λ s h. omega (arith, each, lost_below code.layout disks s (asked_is_lost _ _ c.requires s (sym (loss.wanted s) ∙ h))),
    )

pub work_from-requires : goal.work_from-requires
work_from-requires c =
    let loss = c.loss_of-loss.ensures in (
      c.requires,
      record {
        wanted_are = loss.wanted;
        known_survive = λ s h. sym (loss.survivors s) ∙ c.fewest-chosen.ensures.within s h;
      },
    )

pub returns : goal.returns
returns c =
    let code : LinearCode = linear c.args.code.now in
    let asked = asked_by c.args.request in
    let loss = c.loss_of-loss in
    let worked = c.work_from in
    let all = worked_fewest code asked c.requires c.args.branchings _
    (fewest_for code asked _ (numeral loss.result.survivors) (numeral loss.result.wanted) c.args.branchings c.matrix.ensures loss.ensures.survivors loss.ensures.wanted
    c.fewest-chosen.ensures)
    c.args.buffer.now _ (Gives (as_found worked.result)) worked.ensures in record { worked = all.0; fewest = all.1 }
