-- Laws of the call: its order of refusals, and what it promises from what the work answered and left. Assumes nothing.
use mathlib.Core.Path.{◌≡◌, refl, sym, ap, ◌∙◌, subst}
use mathlib.Core.List.{List}
use Prim.Native.Nat.{ℕ, ◌-◌, ◌^◌, ◌≤◌}
use lib.Dec.{ltb}
use lib.ListN.{length}
use lib.Pow.{pow_mono}
use borrow.Author.Tests.{ltb-false}
use Rattle.codes.specs.Codes.{WithinLimits}
use Rattle.codes.specs.Layouts.{symbols_of}
use Rattle.codes.specs.declared.Layout.{Layout}
use Rattle.code_sheets.specs.CodeReading.{CodeRead, reading}
use Rattle.plan_requests.specs.PlanRequests.{Asked, planning_faults, planning_verdict}
use Rattle.plan_sheets.specs.InnerPlanSheets.{EditionFits}
use Rattle.plans.specs.Judgement.{lost_count}
use Rattle.planning.specs.Planning.{Found}
use Rattle.planning.specs.Demand3.{Promised}
use Rattle.planning.specs.InnerWork.{Workable, Worked}
use Rattle.planning.proofs.CallLaws.{workable_if_fine, promised_if_fine}
use Rattle.planning.proofs.StripLaws.{count_survivors}
use Rattle.fewest_planner.specs.FewestReads.{FewestReads, survivor_count}
use Rattle.refusals.specs.Orders.{Outcome, Fine, Refused, Answer, Refuses, or_if, and_then}
use Rattle.refusals.specs.Refusals.{Numbered, ◌at◌}
use Rattle.refusals.proofs.OrderLaws.{refusal_stands, orders_join, fine_means_none_holds, none_holds_first, none_holds_second, none_holds_means_fine, refused_is_not_fine}
use Rattle.fewest_planner.specs.FewestCall.{survivor_faults, fewest_faults, fewest_verdict, PromisedFewest}

-- ------------------------------------------------------------------
-- The order

module _ (layout : Layout) (asked : Asked) (room : ℕ) (read : Outcome) {tested : Outcome} (is_tested : tested ≡ and_then read (planning_faults layout asked room)) where
  by_parts : and_then tested (survivor_faults layout asked.disks) ≡ and_then read (fewest_faults layout asked room)
  by_parts =
      ap (λ (v : Outcome). and_then v (survivor_faults layout asked.disks)) is_tested
      ∙ sym (orders_join read (planning_faults layout asked room) (survivor_faults layout asked.disks))

  -- What planning refuses is refused
  pub refused_early : (refusal : Numbered) → tested ≡ Refused refusal → Refused refusal ≡ and_then read (fewest_faults layout asked room)
  refused_early refusal e =
      sym (ap (λ (v : Outcome). and_then v (survivor_faults layout asked.disks)) e ∙ refusal_stands refusal (survivor_faults layout asked.disks)) ∙ by_parts

  -- Otherwise the number of survivors decides
  pub decided_by_survivors : {survivors : ℕ} → survivors ≡ survivor_count layout asked.disks → {v : Outcome} → v ≡ or_if tested (ltb 16 survivors) (41 at survivors)
      → v ≡ and_then read (fewest_faults layout asked room)
  decided_by_survivors counted e = e ∙ ap (λ (n : ℕ). or_if tested (ltb 16 n) (41 at n)) counted ∙ by_parts

-- All symbols but the lost ones survive
pub survivors_counted : (layout : Layout) (disks : List ℕ) {lost left : ℕ} → lost ≡ lost_count layout disks → left ≡ symbols_of layout - lost → left ≡ survivor_count layout disks
survivors_counted layout disks lost_is left_is = left_is ∙ ap (λ (n : ℕ). symbols_of layout - n) lost_is ∙ sym (count_survivors layout disks)

-- ------------------------------------------------------------------
-- The call

module _ (code_sheet : List ℕ) (asked : Asked) (before : List ℕ) (fits : EditionFits asked.edition asked.disks asked.wanted) (read : CodeRead) (as_read : read ≡ reading code_sheet)
    (limits : read.verdict ≡ Fine → WithinLimits read.code) {verdict : Outcome}
    (verdict_is : verdict ≡ and_then read.verdict (fewest_faults read.code.layout asked (length before))) where
  -- The tests answered the order's verdict on the sheet
  tested : verdict ≡ fewest_verdict code_sheet asked (length before)
  unfolding fewest_verdict
  tested = verdict_is ∙ ap (λ (r : CodeRead). and_then r.verdict (fewest_faults r.code.layout asked (length before))) as_read

  -- Planning would refuse nothing either
  planning_fine : verdict ≡ Fine → and_then read.verdict (planning_faults read.code.layout asked (length before)) ≡ Fine
  planning_fine e =
      let none = fine_means_none_holds read.verdict (fewest_faults read.code.layout asked (length before)) (sym verdict_is ∙ e) in
      ap (λ (v : Outcome). and_then v (planning_faults read.code.layout asked (length before))) none.0
      ∙ none_holds_means_fine (planning_faults read.code.layout asked (length before))
      (none_holds_first (planning_faults read.code.layout asked (length before)) (survivor_faults read.code.layout asked.disks) none.1)

  -- At most 16 symbols survive, which have at most 65,536 subsets
  few_subsets : verdict ≡ Fine → 2 ^ survivor_count read.code.layout asked.disks ≤ 65536
  few_subsets e =
      let none = fine_means_none_holds read.verdict (fewest_faults read.code.layout asked (length before)) (sym verdict_is ∙ e) in
      pow_mono
      (ltb-false 16 (survivor_count read.code.layout asked.disks)
      (none_holds_second (planning_faults read.code.layout asked (length before)) (survivor_faults read.code.layout asked.disks) none.1).0)

  -- So the work may be done
  pub workable_if_tested : verdict ≡ Fine → Workable read.code asked (length before)
  workable_if_tested e = (workable_if_fine read asked (length before) limits fits (planning_fine e)).1

  -- Refused: the refusal is the answer
  pub promised_if_refused : (refusal : Numbered) → verdict ≡ Refused refusal → PromisedFewest code_sheet asked before before (Refuses refusal)
  promised_if_refused refusal e =
      record {
        refusal = sym (sym tested ∙ e);
        buffer = refl;
        as_planning = λ fine. absurd (refused_is_not_fine (sym e ∙ tested ∙ fine));
        fewest = tt;
      }

  -- Fine: the work's answer keeps the promise
  pub promised_if_worked : verdict ≡ Fine → (after : List ℕ) (answer : Answer Found) → Worked read.code asked before after answer
      → (2 ^ survivor_count read.code.layout asked.disks ≤ 65536 → FewestReads read.code asked answer)
      → PromisedFewest code_sheet asked before after answer
  unfolding planning_verdict
  promised_if_worked e after answer worked fewest =
      let planning : Promised code_sheet asked before after answer =
      promised_if_fine code_sheet asked before fits read as_read limits refl (planning_fine e) answer worked in
      let fine : planning_verdict code_sheet asked (length before) ≡ Fine =
      sym (ap (λ (r : CodeRead). and_then r.verdict (planning_faults r.code.layout asked (length before))) as_read) ∙ planning_fine e in
      record {
        refusal = planning.refusal ∙ fine ∙ sym (sym tested ∙ e);
        buffer = planning.buffer;
        as_planning = λ q. planning;
        fewest = subst (λ (r : CodeRead). FewestReads r.code asked answer) as_read (fewest (few_subsets e));
      }

-- A code sheet that is refused: the refusal is the answer
pub promised_if_unread : (code_sheet : List ℕ) (asked : Asked) (before : List ℕ) (refusal : Numbered) → (reading code_sheet).verdict ≡ Refused refusal
    → PromisedFewest code_sheet asked before before (Refuses refusal)
unfolding fewest_verdict
promised_if_unread code_sheet asked before refusal e =
    let faults = fewest_faults (reading code_sheet).code.layout asked (length before) in
    let verdict : fewest_verdict code_sheet asked (length before) ≡ Refused refusal = ap (λ (v : Outcome). and_then v faults) e ∙ refusal_stands refusal faults in
    record {
      refusal = sym verdict;
      buffer = refl;
      as_planning = λ fine. absurd (refused_is_not_fine (sym verdict ∙ fine));
      fewest = tt;
    }

-- Where the call refuses nothing for a code sheet, the work may be done
pub workable_if_fewest_fine : (code_sheet : List ℕ) → ((reading code_sheet).verdict ≡ Fine → WithinLimits (reading code_sheet).code) → (asked : Asked) (before : List ℕ)
    → EditionFits asked.edition asked.disks asked.wanted → fewest_verdict code_sheet asked (length before) ≡ Fine → Workable (reading code_sheet).code asked (length before)
unfolding fewest_verdict
workable_if_fewest_fine code_sheet limits asked before fits fine = workable_if_tested code_sheet asked before fits (reading code_sheet) refl limits refl fine
