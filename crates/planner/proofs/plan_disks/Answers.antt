-- `planner::plan_disks` meets its contract: an edition 3 sheet is asked for. Assumes nothing.
use mathlib.Core.Path.{refl}
use Rattle.plan_sheets.specs.InnerPlanSheets.{Third}
use Rattle.planner.proofs.plan_disks.Goals as goal

pub plan_asked-requires : goal.plan_asked-requires
plan_asked-requires c = Third refl

pub returns : goal.returns
returns c =
    let promised = c.plan_asked.ensures.promised in
    let steps = c.plan_asked.ensures.steps in
    record { refusal = promised.refusal; buffer = promised.buffer; demand3 = promised.demand3; exactly = promised.exactly; gone = promised.gone; none_gone = promised.none_gone; patterns = promised.patterns; rules = promised.rules; steps = steps }
