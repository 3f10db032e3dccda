-- `priced_planner::work::work_out_priced` meets its contract: the patterns that tell what is gone, or the sets of the start, whose steps are planning's.
-- Assumes nothing.
use mathlib.Core.Path.{sym, ap, ◌∙◌, fun_ext}
use mathlib.Core.Bool.{Bool}
use mathlib.Core.List.{List}
use Prim.Native.Nat.{ℕ}
use Rattle.bits.specs.BitSets.{has}
use Rattle.bits.specs.Numerals.{numeral, numerals, padded}
use Rattle.bits.specs.declared.BitSet.{BitSet}
use Rattle.codes.specs.Codes.{LinearCode, linear, symbols}
use Rattle.codes.proofs.LimitLaws.{layout_within}
use Rattle.plan_requests.specs.PlanRequests.{asked_by}
use Rattle.plan_sheets.specs.InnerPlanSheets.{subset_plan}
use Rattle.planning.specs.InnerPlan.{steps_from}
use Rattle.planning.specs.InnerWork.{Chosen}
use Rattle.planning.specs.Planning.{Found, APatterns}
use Rattle.planning.proofs.ResultLaws.{listed_small, disks_below, worked_patterns, all_known, worked_from_all, solved_right, steps_are}
use Rattle.refusals.specs.Orders.{Answer, Gives}
use Rattle.priced_planner.specs.InnerPriced.{StartHeld}
use Rattle.priced_planner.proofs.work.work_out_priced.Goals as goal

pub lost_symbols-gone-requires : goal.lost_symbols-gone-requires
lost_symbols-gone-requires c = (layout_within _ c.requires.within, disks_below _ _ c.requires)

pub loss_of-loss-requires : goal.loss_of-loss-requires
loss_of-loss-requires c =
    (layout_within _ c.requires.within, disks_below _ _ c.requires 0 c.requires.disks_good.count_from, c.lost_symbols-gone.ensures.lost, listed_small _ _ c.requires)

pub write_settled-requires : goal.write_settled-requires
write_settled-requires c =
    let code : LinearCode = linear c.args.code.now in
    let asked = asked_by c.args.request in
    let loss = c.loss_of-loss in
    let known = numeral loss.result.survivors in
    let wanted = numeral loss.result.wanted in
    let chosen : Chosen code asked (has (numeral loss.result.wanted)) (has (numeral loss.result.survivors)) =
    record { wanted_are = loss.ensures.wanted; known_survive = λ s h. sym (loss.ensures.survivors s) ∙ h } in
    let are = c.array_of-start.ensures ∙ ap (λ (l : List BitSet). padded (numerals l)) c.as_slice.ensures.value in
    let found = c.in-Ok.ensures.found in
    let start_held : StartHeld code asked loss.result.wanted c.array_of-start.result =
    record {
      wanted_are = loss.ensures.wanted;
      right = solved_right code asked c.requires known wanted chosen found are;
      steps_are =
          ap (λ (set : ℕ → Bool). subset_plan (symbols code) set (numerals c.array_of-start.result)) (sym (fun_ext loss.ensures.wanted))
          ∙ steps_are code asked c.requires known wanted chosen found are
          ∙ ap (steps_from code asked) (fun_ext loss.ensures.survivors);
    } in
    (c.requires, start_held)

pub returns-in-Ok : goal.returns-in-Ok
returns-in-Ok c = c.write_settled.ensures

pub returns-in-Err : goal.returns-in-Err
returns-in-Err c =
    let code : LinearCode = linear c.args.code.now in
    let asked = asked_by c.args.request in
    let before = c.args.buffer.now in
    let loss = c.loss_of-loss in
    let chosen : Chosen code asked (has (numeral loss.result.wanted)) (has (numeral loss.result.survivors)) =
    record { wanted_are = loss.ensures.wanted; known_survive = λ s h. sym (loss.ensures.survivors s) ∙ h } in
    let answer : Answer Found = Gives (APatterns (numerals c.in-Err.lost.items)) in
    worked_from_all code asked c.requires before before answer
    (all_known code asked c.requires loss.ensures.survivors before before answer
    (worked_patterns code asked c.requires (numeral loss.result.survivors) (numeral loss.result.wanted) chosen c.in-Err.ensures.lost before))
