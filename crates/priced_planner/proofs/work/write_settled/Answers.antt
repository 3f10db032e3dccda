-- `priced_planner::work::write_settled` meets its contract: the final sets are right, so the steps from them make a good sheet. Assumes nothing.
use native.Mathlib.Omega.{arith}
use Rattle.bits.specs.Numerals.{numerals}
use Rattle.bits.proofs.NumeralLaws.{array_length}
use Rattle.codes.specs.Codes.{LinearCode, linear}
use Rattle.codes.proofs.LimitLaws.{layout_within}
use Rattle.plan_requests.specs.PlanRequests.{asked_by}
use Rattle.priced_planner.proofs.PricedLaws.{wanted_below, sets_fit, sets_right, priced_sheet}
use Rattle.priced_planner.proofs.work.write_settled.Goals as goal

pub equations_for-equations-requires : goal.equations_for-equations-requires
equations_for-equations-requires c = c.requires.0.disks_good

pub settle-settling-requires : goal.settle-settling-requires
settle-settling-requires c =
    let a = c.args in
    let code : LinearCode = linear a.code.now in
    let asked = asked_by a.request in
    let pre = c.requires in
    let made = c.equations_for-equations in
    let equations = numerals made.result.items in (
      layout_within code pre.0.within,
      wanted_below code asked pre.0 equations made.ensures.list made.ensures.equations a.wanted a.start pre.1,
      omega (arith, array_length a.start _ c.well_formed.1.1.1.1.0, pre.0.within.symbols_to),
    )

pub write_plan-written-requires : goal.write_plan-written-requires
write_plan-written-requires c =
    let a = c.args in
    let code : LinearCode = linear a.code.now in
    let asked = asked_by a.request in
    let pre = c.requires in
    let made = c.equations_for-equations in
    let equations = numerals made.result.items in
    let right = sets_right code asked pre.0 equations made.ensures.list made.ensures.equations a.wanted a.start pre.1 a.states.now c.settle-settling.ensures in
    sets_fit code asked pre.0 equations made.ensures.list made.ensures.equations a.wanted a.start pre.1 right

pub returns : goal.returns
returns c =
    let a = c.args in
    let code : LinearCode = linear a.code.now in
    let asked = asked_by a.request in
    let pre = c.requires in
    let made = c.equations_for-equations in
    let equations = numerals made.result.items in
    let sheet = c.write_plan-written.ensures in
    priced_sheet code asked pre.0 equations made.ensures.list made.ensures.equations a.wanted a.start pre.1 a.states.now c.settle-settling.ensures sheet.reads sheet.length sheet.buffer
