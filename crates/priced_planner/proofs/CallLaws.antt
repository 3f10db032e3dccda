-- The call keeps its promise: by the verdict of its tests, and by what the work answers and leaves. Assumes nothing.
use mathlib.Core.Path.{◌≡◌, refl, sym, ap, ◌∙◌, subst}
use mathlib.Core.List.{List}
use Prim.Native.Nat.{ℕ}
use lib.ListN.{length}
use Rattle.code_sheets.specs.CodeReading.{CodeRead, reading}
use Rattle.codes.specs.Codes.{LinearCode, WithinLimits}
use Rattle.gf2.specs.declared.Step.{Step}
use Rattle.plan_requests.specs.PlanRequests.{Asked, listed_on_set, planning_verdict}
use Rattle.plan_sheets.specs.InnerPlanSheets.{Third}
use Rattle.planning.specs.Demand3.{Promised}
use Rattle.planning.specs.InnerWork.{Workable, Worked}
use Rattle.planning.proofs.CallLaws.{workable_if_fine, fine_if_workable, steps_told, promised_work}
use Rattle.prices.specs.declared.DiskState.{DiskState}
use Rattle.refusals.specs.Orders.{Outcome, Fine, Refused, Answer, Gives, Refuses, and_then}
use Rattle.refusals.specs.Refusals.{Numbered}
use Rattle.refusals.proofs.OrderLaws.{refusal_stands, refused_is_not_fine}
use Rattle.priced_planner.specs.PricedPlanner.{priced_faults, priced_verdict, asked_with_away, PricedFound, APlan, APatterns, unpriced, BySwaps, PromisedPriced}
use Rattle.priced_planner.specs.InnerPriced.{WorkedPriced}
use Rattle.priced_planner.proofs.AvoidLaws.{some_with_away, plan_without, without_avoids}
use Rattle.priced_planner.proofs.AwayLaws.{workable_with_away, wants_as_asked}
use Rattle.priced_planner.proofs.RequestLaws.{planning_fine}

-- What was worked out is worked out as planning does
worked_so : (code : LinearCode) (asked : Asked) (states : List DiskState) (before after : List ℕ) (answer : Answer PricedFound)
    → WorkedPriced code asked states before after answer → Worked code asked before after (unpriced answer)
worked_so code asked states before after (Gives (APlan sheet_bytes reads sum settled)) worked = worked.written
worked_so code asked states before after (Gives (APatterns patterns)) worked = worked
worked_so code asked states before after (Refuses refusal) worked = absurd worked

-- ------------------------------------------------------------------
-- Nothing is refused

module _ (code_sheet disks list : List ℕ) (states : List DiskState) (before : List ℕ) (code_good : (reading code_sheet).verdict ≡ Fine)
    (workable : Workable (reading code_sheet).code (listed_on_set disks list) (length before)) (after : List ℕ) where
  abbrev code : LinearCode
  code = (reading code_sheet).code

  abbrev asked : Asked
  asked = listed_on_set disks list

  abbrev with_away : Asked
  with_away = asked_with_away code asked states

  may : Workable code with_away (length before)
  may = workable_with_away code disks list states workable

  planning_takes : planning_verdict code_sheet with_away (length before) ≡ Fine
  planning_takes = fine_if_workable code_sheet with_away (length before) code_good may

  promised_of : (answer : Answer PricedFound) → WorkedPriced code with_away states before after answer → Promised code_sheet with_away before after (unpriced answer)
  promised_of answer worked =
      promised_work code_sheet with_away before planning_takes code_good may after (unpriced answer) (worked_so code with_away states before after answer worked)

  priced_of : priced_verdict code_sheet asked states (length before) ≡ Fine → (answer : Answer PricedFound) → WorkedPriced code with_away states before after answer
      → PromisedPriced code_sheet asked states before after answer
  priced_of fine (Gives (APlan sheet_bytes reads sum settled)) worked =
      let promised = promised_of (Gives (APlan sheet_bytes reads sum settled)) worked in
      let some = (promised.exactly planning_takes).0 tt in
      record {
        refusal = sym fine;
        buffer = promised.buffer;
        wanted = λ q. wants_as_asked code disks list states workable;
        as_planning = λ q. promised;
        exactly =
            λ q. (
              λ none. absurd none,
              λ none_avoids. none_avoids (plan_without code disks list states workable some.plan some.accepted) (without_avoids code disks list states workable some.plan some.accepted),
            );
        by_swaps =
            subst (λ (steps : List Step). BySwaps code with_away states steps sum settled)
            (sym (steps_told code_sheet with_away before planning_takes code_good may after sheet_bytes reads worked.written)) worked.by_swaps;
      }
  priced_of fine (Gives (APatterns patterns)) worked =
      let promised = promised_of (Gives (APatterns patterns)) worked in
      record {
        refusal = sym fine;
        buffer = promised.buffer;
        wanted = λ q. wants_as_asked code disks list states workable;
        as_planning = λ q. promised;
        exactly =
            λ q. (
              λ are plan avoiding.
                  let some = some_with_away code disks list states workable plan avoiding in
                  promised.demand3.0 some.plan some.accepted,
              λ none_avoids. tt,
            );
        by_swaps = tt;
      }
  priced_of fine (Refuses refusal) worked = absurd worked

-- ------------------------------------------------------------------
-- By the verdict

module _ (code_sheet disks list : List ℕ) (states : List DiskState) (before : List ℕ) (read : CodeRead) (as_read : read ≡ reading code_sheet)
    (limits : read.verdict ≡ Fine → WithinLimits read.code) {verdict : Outcome}
    (verdict_is : verdict ≡ and_then read.verdict (priced_faults read.code.layout (listed_on_set disks list) states (length before))) where
  -- The tests answered the order's verdict on the sheet
  tested : verdict ≡ priced_verdict code_sheet (listed_on_set disks list) states (length before)
  unfolding priced_verdict
  tested = verdict_is ∙ ap (λ (r : CodeRead). and_then r.verdict (priced_faults r.code.layout (listed_on_set disks list) states (length before))) as_read

  -- Refused: the refusal is the answer, and no byte changes
  pub promised_if_refused : (refusal : Numbered) → verdict ≡ Refused refusal → PromisedPriced code_sheet (listed_on_set disks list) states before before (Refuses refusal)
  promised_if_refused refusal e =
      let never : priced_verdict code_sheet (listed_on_set disks list) states (length before) ≡ Fine → ⊥ = λ fine. refused_is_not_fine (sym e ∙ tested ∙ fine) in
      record {
        refusal = sym e ∙ tested;
        buffer = refl;
        wanted = λ fine. absurd (never fine);
        as_planning = λ fine. absurd (never fine);
        exactly = λ fine. absurd (never fine);
        by_swaps = tt;
      }

  -- Fine: what was asked is workable
  pub workable_if_tested : verdict ≡ Fine → (read.verdict ≡ Fine) × Workable read.code (listed_on_set disks list) (length before)
  workable_if_tested fine =
      workable_if_fine read (listed_on_set disks list) (length before) limits (Third refl)
      (planning_fine read.code.layout (listed_on_set disks list) states (length before) read.verdict (sym verdict_is ∙ fine))

  -- and the work's answer keeps the promise
  pub promised_if_fine : verdict ≡ Fine → {after : List ℕ} (answer : Answer PricedFound)
      → WorkedPriced read.code (asked_with_away read.code (listed_on_set disks list) states) states before after answer
      → PromisedPriced code_sheet (listed_on_set disks list) states before after answer
  promised_if_fine fine {after} answer worked =
      let may = workable_if_tested fine in
      priced_of code_sheet disks list states before (ap (λ (r : CodeRead). r.verdict) (sym as_read) ∙ may.0)
      (subst (λ (r : CodeRead). Workable r.code (listed_on_set disks list) (length before)) as_read may.1) after (sym tested ∙ fine) answer
      (subst (λ (r : CodeRead). WorkedPriced r.code (asked_with_away r.code (listed_on_set disks list) states) states before after answer) as_read worked)

-- A code sheet that is refused: the refusal is the answer
pub promised_if_unread : (code_sheet disks list : List ℕ) (states : List DiskState) (before : List ℕ) (refusal : Numbered) → (reading code_sheet).verdict ≡ Refused refusal
    → PromisedPriced code_sheet (listed_on_set disks list) states before before (Refuses refusal)
promised_if_unread code_sheet disks list states before refusal e =
    let faults = priced_faults (reading code_sheet).code.layout (listed_on_set disks list) states (length before) in
    promised_if_refused code_sheet disks list states before (reading code_sheet) refl (λ fine. absurd (refused_is_not_fine (sym e ∙ fine)))
    (sym (ap (λ (v : Outcome). and_then v faults) e ∙ refusal_stands refusal faults)) refusal refl
