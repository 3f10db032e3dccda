-- What priced planning promises holds of what goes out. Assumes nothing.
use mathlib.Core.Path.{◌≡◌, refl, sym}
use mathlib.Core.List.{List}
use Prim.Native.Nat.{ℕ}
use lib.ListN.{length}
use Rattle.answers.specs.Answers.{Told}
use Rattle.answers.specs.InnerFits.{PatternFits}
use Rattle.answers.specs.PricedAnswers.{out_priced, PricedOut}
use Rattle.answers.specs.declared.priced.OutPriced.{OutPriced}
use Rattle.answers.proofs.NumberLaws.{number_not_0}
use Rattle.answers.proofs.PlanLaws.{answers_told, pattern_fits}
use Rattle.code_sheets.specs.CodeReading.{reading}
use Rattle.plan_requests.specs.PlanRequests.{Asked, listed_on_set}
use Rattle.plan_sheets.specs.InnerPlanSheets.{Third}
use Rattle.planning.specs.Planning.{BufferLeft}
use Rattle.planning.specs.declared.Planned.TheVariants as Plans
use Rattle.priced_planner.specs.PricedPlanner.{priced_verdict, asked_with_away, as_priced, unpriced, WantsAsAsked, AsPlanning, PatternsExactly, PricedBySwaps}
use Rattle.priced_planner.specs.declared.Priced.{Priced}
use Rattle.priced_planner.specs.declared.Priced.TheVariants as Answers
use Rattle.prices.specs.declared.DiskState.{DiskState}
use Rattle.refusals.specs.Orders.{outcome_of}
use Rattle.refusals.specs.declared.Refusal.{Refusal}
use Rattle.std.specs.Prelude.{Result, Ok, Err}
use Rattle.gf2.specs.Stripes.{AreBytes}

module _ (sheet : List ℕ) (sheet_bytes : AreBytes sheet) (disks list : List ℕ) (states : List DiskState) (before after : List ℕ) where
  abbrev asked : Asked
  asked = listed_on_set disks list

  abbrev with_away : Asked
  with_away = asked_with_away (reading sheet).code asked states

  -- Cases can be told apart, and a first pattern fits a word: what is not refused keeps what planning promises
  told_and_fits : (answer : Result Priced Refusal) → outcome_of (as_priced answer) ≡ priced_verdict sheet asked states (length before)
      → AsPlanning sheet asked states before after (as_priced answer) → Told (unpriced (as_priced answer)) × PatternFits (unpriced (as_priced answer))
  told_and_fits (Ok (Answers.Plan plan_length reads sum settled)) e planning =
      let promised = planning (sym e) in
      (answers_told sheet sheet_bytes with_away (Third refl) before after (Ok (Plans.Plan plan_length reads)) promised.refusal promised.demand3, tt)
  told_and_fits (Ok (Answers.Patterns lost)) e planning =
      let promised = planning (sym e) in (
        answers_told sheet sheet_bytes with_away (Third refl) before after (Ok (Plans.Patterns lost)) promised.refusal promised.demand3,
        pattern_fits sheet sheet_bytes with_away (Third refl) before after (Ok (Plans.Patterns lost)) promised.refusal promised.demand3,
      )
  told_and_fits (Err refusal) e planning = (number_not_0 refusal, tt)

  pub priced_fits : (answer : Result Priced Refusal) → outcome_of (as_priced answer) ≡ priced_verdict sheet asked states (length before)
      → AsPlanning sheet asked states before after (as_priced answer) → PatternFits (unpriced (as_priced answer))
  priced_fits answer refusal planning = (told_and_fits answer refusal planning).1

  -- What priced planning promises of its answer, clause by clause, holds of what goes out
  pub priced_out : (answer : Result Priced Refusal) {out : OutPriced} → out ≡ out_priced (as_priced answer)
      → (outcome_of (as_priced answer) ≡ priced_verdict sheet asked states (length before))
      × (BufferLeft before after (unpriced (as_priced answer))
      × (WantsAsAsked sheet asked states (length before)
      × (AsPlanning sheet asked states before after (as_priced answer)
      × (PatternsExactly sheet asked states (length before) (as_priced answer) × PricedBySwaps sheet asked states after (as_priced answer)))))
      → PricedOut sheet asked states before after out
  priced_out answer goes_out (refusal, (buffer, (wanted, (planning, (exactly, by_swaps))))) =
      record {
        answer = as_priced answer;
        goes_out = goes_out;
        told = (told_and_fits answer refusal planning).0;
        promised = record { refusal = refusal; buffer = buffer; wanted = wanted; as_planning = planning; exactly = exactly; by_swaps = by_swaps };
      }
