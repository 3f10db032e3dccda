-- Demand 2, last sentence: what the steps of a plan that deserves acceptance leave of a stripe. Assumes nothing.
use mathlib.Core.Path.{◌≡◌, sym, ap, ◌∙◌}
use mathlib.Core.List.{List}
use Prim.Native.Nat.{ℕ, ◌*◌}
use lib.ListN.{length}
use Rattle.plans.specs.Demand2.{Deserves}
use Rattle.plans.specs.Judgement.{plan_verdict}
use Rattle.plan_sheets.specs.PlanSheets.{plan_in}
use Rattle.plans.proofs.JudgementLaws.{length_matrix, fine_if_deserves, gives_stripe_back_if_fine, depends_on_survivors_if_fine, keeps_kept_if_fine, keeps_length_if_fine}
use Rattle.refusals.specs.Orders.{Fine}
use Rattle.codes.specs.Codes.{LinearCode, symbols, matrix, WithinLimits}
use Rattle.rebuild.specs.Rebuild.{rebuilt, Restored}

module _ (code : LinearCode) (within : WithinLimits code) (disks plan_sheet : List ℕ) (count : ℕ)
    (deserves : Deserves code disks (plan_in plan_sheet) count) (size : ℕ) (before : List ℕ) (whole : length before ≡ symbols code * size) where
  fine : plan_verdict code disks (plan_in plan_sheet) ≡ Fine
  fine = fine_if_deserves code within disks (plan_in plan_sheet) count deserves

  -- The stripe has a symbol for each row of the matrix
  matrix_whole : length before ≡ length (matrix code) * size
  matrix_whole = whole ∙ ap (λ (n : ℕ). n * size) (sym (length_matrix code within))

  -- Demand 2, last sentence, of what the steps leave
  pub steps_restore : (after : List ℕ) → after ≡ rebuilt plan_sheet size before → Restored code disks plan_sheet size before after
  steps_restore after e =
      rw e
      (record {
        length_kept = keeps_length_if_fine code within disks (plan_in plan_sheet) fine size before matrix_whole ∙ sym matrix_whole;
        gives_back = λ stripe valid same. gives_stripe_back_if_fine code within disks (plan_in plan_sheet) fine size stripe before valid matrix_whole same;
        independent = λ other same_length same. depends_on_survivors_if_fine code within disks (plan_in plan_sheet) fine size before other matrix_whole (same_length ∙ matrix_whole) same;
        keeps_others = keeps_kept_if_fine code within disks (plan_in plan_sheet) fine size before matrix_whole;
      })
