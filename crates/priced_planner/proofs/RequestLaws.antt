-- 42 behind what is tested for planning. Assumes nothing.
use mathlib.Core.Path.{◌≡◌, sym, ap, ◌∙◌}
use mathlib.Core.List.{List}
use Prim.Native.Nat.{ℕ}
use lib.Dec.{ltb}
use Rattle.codes.specs.declared.Layout.{Layout}
use Rattle.plan_requests.specs.PlanRequests.{Asked, planning_faults}
use Rattle.prices.specs.Prices.{first_bad_state}
use Rattle.prices.specs.declared.DiskState.{DiskState}
use Rattle.refusals.specs.Orders.{Outcome, Fine, Refused, or_if, and_then}
use Rattle.refusals.specs.Refusals.{Numbered, ◌at◌}
use Rattle.refusals.proofs.OrderLaws.{orders_join, refusal_stands, fine_means_none_holds}
use Rattle.priced_planner.specs.PricedPlanner.{state_faults, priced_faults}

module _ (layout : Layout) (asked : Asked) (states : List DiskState) (buffer_length : ℕ) (read : Outcome) where
  -- The order in its two parts
  by_parts : and_then read (priced_faults layout asked states buffer_length) ≡ and_then (and_then read (planning_faults layout asked buffer_length)) (state_faults layout states)
  by_parts = orders_join read (planning_faults layout asked buffer_length) (state_faults layout states)

  -- Where nothing is refused, planning refuses nothing either
  pub planning_fine : and_then read (priced_faults layout asked states buffer_length) ≡ Fine → and_then read (planning_faults layout asked buffer_length) ≡ Fine
  planning_fine fine = (fine_means_none_holds (and_then read (planning_faults layout asked buffer_length)) (state_faults layout states) (sym by_parts ∙ fine)).0

  module _ {tested : Outcome} (is_tested : tested ≡ and_then read (planning_faults layout asked buffer_length)) where
    -- Where nothing is refused so far, the code sheet is fine
    pub read_fine : tested ≡ Fine → read ≡ Fine
    read_fine fine = (fine_means_none_holds read (planning_faults layout asked buffer_length) (sym is_tested ∙ fine)).0

    -- What planning refuses stays refused
    pub refused_earlier : (refusal : Numbered) → tested ≡ Refused refusal → tested ≡ and_then read (priced_faults layout asked states buffer_length)
    refused_earlier refusal refused =
        refused
        ∙ sym (ap (λ (v : Outcome). and_then v (state_faults layout states)) (sym is_tested ∙ refused) ∙ refusal_stands refusal (state_faults layout states))
        ∙ sym by_parts

    -- The state of a disk comes last
    pub state_last : {bad : ℕ} → bad ≡ first_bad_state states layout.disks
        → or_if tested (ltb bad layout.disks) (42 at bad) ≡ and_then read (priced_faults layout asked states buffer_length)
    state_last {bad} bad_is =
        ap (λ (d : ℕ). or_if tested (ltb d layout.disks) (42 at d)) bad_is
        ∙ ap (λ (v : Outcome). and_then v (state_faults layout states)) is_tested
        ∙ sym by_parts
