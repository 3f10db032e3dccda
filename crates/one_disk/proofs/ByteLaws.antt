-- What the calls about the set of a byte promise, they promise of the disk whose number the byte stands for. Assumes nothing.
use mathlib.Core.Path.{◌≡◌, sym, ap, ◌∙◌, subst}
use mathlib.Core.Bool.{Bool, cond}
use mathlib.Core.List.{List, [], ◌∷◌}
use mathlib.Core.Logic.{◌↔◌}
use Prim.Native.Nat.{ℕ}
use native.Mathlib.Omega.{arith}
use lib.ListN.{length}
use borrow.Author.Tests.{lt-ltb}
use Rattle.codes.specs.Codes.{WithinLimits}
use Rattle.code_sheets.specs.CodeReading.{reading}
use Rattle.codes.specs.Codes.{symbols}
use Rattle.codes.specs.Lengths.{stripe_faults}
use Rattle.lists.specs.Lists.{disk_byte}
use Rattle.plan_sheets.specs.PlanSheets.{head_in}
use Rattle.plans.specs.Check.{checked}
use Rattle.plans.specs.Demand2.{DeservesAcceptance}
use Rattle.plans.proofs.CheckLaws.{checked_by_byte, accepted_exactly}
use Rattle.rebuild.specs.Rebuild.{rebuild_verdict, rebuilt, stripe_after, Restored}
use Rattle.refusals.specs.Orders.{Outcome, Fine, Answer, Gives, answering, and_then, if_fine}
use Rattle.rebuild.proofs.CallLaws.{fine_means_below}

module _ (code_sheet : List ℕ) (disk : ℕ) (plan_sheet : List ℕ) (limits : (reading code_sheet).verdict ≡ Fine → WithinLimits (reading code_sheet).code) where
  -- The check's answer
  checked_alike : checked code_sheet (disk_byte disk ∷ []) plan_sheet ≡ checked code_sheet (disk ∷ []) plan_sheet
  unfolding checked
  checked_alike = ap (λ (v : Outcome). answering v (head_in plan_sheet).reads) (checked_by_byte code_sheet disk plan_sheet limits)

  pub check_by_byte : {answer : Answer ℕ} → answer ≡ checked code_sheet (disk_byte disk ∷ []) plan_sheet
      → (answer ≡ checked code_sheet (disk ∷ []) plan_sheet) × ((count : ℕ) → (answer ≡ Gives count) ↔ DeservesAcceptance code_sheet (disk ∷ []) plan_sheet count)
  check_by_byte e =
      let told = e ∙ checked_alike in
      (told, accepted_exactly code_sheet (disk ∷ []) plan_sheet limits told)

  module _ (size : ℕ) (stripe : List ℕ) where
    -- A rebuild's verdict
    verdict_alike : rebuild_verdict code_sheet (disk_byte disk ∷ []) plan_sheet size (length stripe) ≡ rebuild_verdict code_sheet (disk ∷ []) plan_sheet size (length stripe)
    unfolding rebuild_verdict
    verdict_alike = ap (λ (v : Outcome). and_then v (stripe_faults (symbols (reading code_sheet).code) size (length stripe))) (checked_by_byte code_sheet disk plan_sheet limits)

    -- and what it leaves
    left_alike : stripe_after code_sheet (disk_byte disk ∷ []) plan_sheet size stripe ≡ stripe_after code_sheet (disk ∷ []) plan_sheet size stripe
    unfolding stripe_after
    left_alike = ap (λ (v : Outcome). if_fine v (rebuilt plan_sheet size stripe) stripe) verdict_alike

    -- A rebuild that is not refused is one of a disk that a byte names
    restored_alike : {after : List ℕ} → rebuild_verdict code_sheet (disk ∷ []) plan_sheet size (length stripe) ≡ Fine
        → Restored (reading code_sheet).code (disk_byte disk ∷ []) plan_sheet size stripe after → Restored (reading code_sheet).code (disk ∷ []) plan_sheet size stripe after
    restored_alike {after} fine =
        let below = fine_means_below code_sheet disk plan_sheet size stripe limits fine in
        subst (λ (d : ℕ). Restored (reading code_sheet).code (d ∷ []) plan_sheet size stripe after) (ap (λ (c : Bool). cond c disk 255) (lt-ltb disk 256 (omega arith)))

    pub rebuild_by_byte : {answer : Outcome} {after : List ℕ} → answer ≡ rebuild_verdict code_sheet (disk_byte disk ∷ []) plan_sheet size (length stripe)
        → after ≡ stripe_after code_sheet (disk_byte disk ∷ []) plan_sheet size stripe
        → (answer ≡ Fine → Restored (reading code_sheet).code (disk_byte disk ∷ []) plan_sheet size stripe after)
        → (answer ≡ rebuild_verdict code_sheet (disk ∷ []) plan_sheet size (length stripe))
        × ((after ≡ stripe_after code_sheet (disk ∷ []) plan_sheet size stripe)
        × (answer ≡ Fine → Restored (reading code_sheet).code (disk ∷ []) plan_sheet size stripe after))
    rebuild_by_byte e f restored =
        let told = e ∙ verdict_alike in
        (told, (f ∙ left_alike, λ fine. restored_alike (sym told ∙ fine) (restored fine)))
