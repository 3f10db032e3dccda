-- What settling and writing gave for a code is what the promise of a priced plan speaks of. Assumes nothing.
use mathlib.Core.Path.{◌≡◌, sym, ◌∙◌, subst, fun_ext}
use mathlib.Core.Bool.{Bool}
use mathlib.Core.List.{List}
use Prim.Native.Nat.{ℕ}
use lib.Ieee.{Float}
use lib.ListN.{length}
use Rattle.bits.specs.BitSets.{has}
use Rattle.bits.specs.Numerals.{numeral, numerals}
use Rattle.bits.specs.declared.BitSet.{BitSet}
use Rattle.codes.specs.Codes.{LinearCode, symbols}
use Rattle.gf2.specs.Plans.{PlacesBelow}
use Rattle.plan_requests.specs.PlanRequests.{Asked, asked_symbols}
use Rattle.plan_sheets.specs.InnerPlanSheets.{subset_plan, source_count, PlanFits}
use Rattle.planning.specs.InnerWork.{Workable, RightSets, RightSteps, sheet_of}
use Rattle.planning.proofs.ResultLaws.{sets_steps_right, fits_if_right, written_if_right}
use Rattle.prices.specs.declared.DiskState.{DiskState}
use Rattle.sheets.specs.Buffers.{at_front}
use Rattle.soundness.specs.Survivors.{EquationsFor, survivor_equations}
use Rattle.swaps.specs.Swaps.{terms_of, Settled}
use Rattle.priced_planner.specs.PricedPlanner.{swap_terms, BySwaps}
use Rattle.priced_planner.specs.InnerPriced.{StartHeld, PricedSheet}
use Rattle.priced_planner.proofs.SwapPlanLaws as swaps_plan

module _ (code : LinearCode) (asked : Asked) {room : ℕ} (workable : Workable code asked room) (equations : List ℕ) (are : equations ≡ survivor_equations code asked.disks)
    (right : EquationsFor code asked.disks equations)
    (wanted : BitSet) (start : List BitSet) (begins : StartHeld code asked wanted start) where
  -- The wanted symbols are the array's
  pub wanted_below : PlacesBelow (symbols code) (has (numeral wanted))
  wanted_below s h = swaps_plan.wanted_below code asked workable s (sym (begins.wanted_are s) ∙ h)

  steps_right : {sets : List ℕ} → RightSets code asked sets
      → RightSteps code asked (source_count (symbols code) (subset_plan (symbols code) (has (numeral wanted)) sets)) (subset_plan (symbols code) (has (numeral wanted)) sets)
  steps_right {sets} = sets_steps_right code asked workable (numeral wanted) sets begins.wanted_are

  -- The steps from right sets fit the sheet and the buffer
  pub sets_fit : {sets : List ℕ} → RightSets code asked sets
      → PlanFits asked.edition code.layout code.data_symbols asked.disks asked.wanted (has (numeral wanted)) sets room
  sets_fit {sets} right = fits_if_right code asked workable (numeral wanted) sets right.below (steps_right right)

  equations_right : EquationsFor code asked.disks (survivor_equations code asked.disks)
  equations_right = subst (EquationsFor code asked.disks) are right

  module _ (states : List DiskState) {final : List ℕ} {sum : Float} {swaps : ℕ} {settled : Bool}
      (settling : Settled (terms_of code.layout states equations wanted) (numerals start) final sum swaps settled) where
    -- The swaps were made on the terms of the promise
    settled_so : Settled (swap_terms code asked states) (numerals start) final sum swaps settled
    settled_so =
        subst
        (λ (list : List ℕ). Settled (record { layout = code.layout; states = states; equations = list; wanted = asked_symbols code asked }) (numerals start) final sum swaps settled)
        are
        (subst
        (λ (set : ℕ → Bool).
        Settled (record { layout = code.layout; states = states; equations = equations; wanted = set }) (numerals start) final sum swaps settled)
        (fun_ext begins.wanted_are) settling)

    pub sets_right : RightSets code asked final
    sets_right = swaps_plan.final_right code asked workable equations_right states begins.right settled_so

    -- A sheet written from them keeps the promise
    pub priced_sheet : {sheet_bytes reads : ℕ} {before after : List ℕ} → reads ≡ source_count (symbols code) (subset_plan (symbols code) (has (numeral wanted)) final)
        → sheet_bytes ≡ length (sheet_of code asked reads (subset_plan (symbols code) (has (numeral wanted)) final))
        → after ≡ at_front (sheet_of code asked reads (subset_plan (symbols code) (has (numeral wanted)) final)) before
        → PricedSheet code asked states sheet_bytes reads sum settled before after
    priced_sheet reads_are length_is first_sheet =
        record {
          written = written_if_right code asked workable (numeral wanted) final sets_right.below (steps_right sets_right) reads_are length_is first_sheet;
          by_swaps =
              subst (λ (set : ℕ → Bool). BySwaps code asked states (subset_plan (symbols code) set final) sum settled) (sym (fun_ext begins.wanted_are))
              (swaps_plan.steps_by_swaps code asked workable equations_right states begins.right settled_so begins.steps_are);
        }
