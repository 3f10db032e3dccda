-- Laws of the verdict on what is asked: its order in two parts, the asked set, then the list and the buffer. Assumes nothing.
use mathlib.Core.Path.{◌≡◌, refl, sym, ap, ◌∙◌, fun_ext}
use mathlib.Core.Bool.{Bool, cond}
use mathlib.Core.List.{List, ◌++◌, append_assoc}
use Prim.Native.Nat.{ℕ}
use lib.Dec.{eqb}
use Rattle.bits.specs.BitSets.{has}
use Rattle.codes.specs.declared.Layout.{Layout}
use Rattle.lists.specs.Lists.{list_faults, GoodDisks}
use Rattle.lists.proofs.ListLaws.{good_disks_if_no_fault}
use Rattle.plans.specs.Check.{asked_faults}
use Rattle.plans.specs.Judgement.{lost, lost_count, least_wanted, wanted_faults}
use Rattle.refusals.specs.Orders.{Outcome, Fine, Refused, Fault, and_then, first_of}
use Rattle.refusals.specs.Refusals.{Numbered, ◌at◌}
use Rattle.refusals.proofs.OrderLaws.{orders_join, refusal_stands, fine_means_none_holds}
use Rattle.plan_requests.specs.PlanRequests.{Asked, room_faults, planning_faults}

module _ (layout : Layout) (asked : Asked) (buffer_length : ℕ) where
  -- The order behind the asked set
  abbrev pub later_faults : List Fault
  later_faults = wanted_faults layout asked.disks asked.edition asked.wanted ++ room_faults asked.edition buffer_length

  abbrev first_faults : List Fault
  first_faults = asked_faults layout asked.disks

  -- The order in its two parts
  by_parts : first_of (planning_faults layout asked buffer_length) ≡ and_then (first_of first_faults) later_faults
  by_parts =
      ap first_of (append_assoc first_faults (wanted_faults layout asked.disks asked.edition asked.wanted) (room_faults asked.edition buffer_length))
      ∙ orders_join Fine first_faults later_faults

  -- A refused set is the whole order's refusal
  pub refused_early : {refusal : Numbered} → Refused refusal ≡ first_of first_faults → Refused refusal ≡ first_of (planning_faults layout asked buffer_length)
  refused_early {refusal} e = sym (refusal_stands refusal later_faults) ∙ ap (λ (v : Outcome). and_then v later_faults) e ∙ sym by_parts

  module _ (fine : Fine ≡ first_of first_faults) where
    -- Where it is not, the set is good
    pub early_fine : GoodDisks layout.disks layout.disks asked.disks
    early_fine = good_disks_if_no_fault layout.disks layout.disks asked.disks (fine_means_none_holds Fine first_faults (sym fine)).1

    -- and the rest is the whole order's
    pub decided_later : (gone : ℕ) → ((s : ℕ) → has gone s ≡ lost layout asked.disks s) → {lost_symbols : ℕ} → lost_symbols ≡ lost_count layout asked.disks
        → {v : Outcome}
        → v ≡ first_of (list_faults (least_wanted asked.edition) (cond (eqb asked.edition 1) 0 lost_symbols) (has gone) asked.wanted (λ position. 23 at position) ++ room_faults asked.edition buffer_length)
        → v ≡ first_of (planning_faults layout asked buffer_length)
    decided_later gone gone_is lost_is e =
        e
        ∙ ap (λ (n : ℕ). first_of (list_faults (least_wanted asked.edition) (cond (eqb asked.edition 1) 0 n) (has gone) asked.wanted (λ position. 23 at position) ++ room_faults asked.edition buffer_length)) lost_is
        ∙ ap (λ (allowed : ℕ → Bool). first_of (list_faults (least_wanted asked.edition) (cond (eqb asked.edition 1) 0 (lost_count layout asked.disks)) allowed asked.wanted (λ position. 23 at position) ++ room_faults asked.edition buffer_length)) (fun_ext gone_is)
        ∙ ap (λ (v : Outcome). and_then v later_faults) fine ∙ sym by_parts
