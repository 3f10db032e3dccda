-- A plan that is read from a sheet as it was written: its steps are well formed, and its head fits. Assumes nothing.
use mathlib.Core.Path.{◌≡◌, refl, subst}
use mathlib.Core.Bool.{false}
use mathlib.Core.List.Memᴰ
use mathlib.Core.List.{List, [], ◌∷◌, ◌++◌, Memᴰ}
use mathlib.Core.Logic.{◌⊎◌, ⊎_elim, inl, inr}
use Prim.Native.Nat.{ℕ, ◌<◌}
use lib.ListN.{length}
use borrow.Author.Tests.{lt-leb}
use Rattle.codes.specs.Codes.{LinearCode}
use Rattle.gf2.specs.Plans.{target, NamesBelow, StepsBelow, reads, NoneOntoItself}
use Rattle.gf2.specs.declared.Step.{Step}
use Rattle.gf2.specs.declared.Step.TheVariants.{Clear, Copy, Add}
use Rattle.plan_sheets.specs.PlanSheets.{first_step, sheet_steps}
use Rattle.plan_sheets.specs.InnerPlanSheets.{EditionFits, First, Second, Third, head_for, step_bytes, steps_bytes}
use Rattle.plan_sheets.proofs.ReadBackLaws.{behind_first_step}
use Rattle.plans.specs.Demand2.{HeadFits}
use Rattle.plans.specs.Judgement.{malformed, onto_itself, EachFormed}

-- A step that doesn't read its own target is not onto itself
apart_written : (step : Step) (bytes : List ℕ) → reads (target step) step ≡ false → onto_itself (first_step (step_bytes step ++ bytes)) ≡ false
apart_written (Clear t) bytes apart = refl
apart_written (Copy t s) bytes apart = apart
apart_written (Add t s) bytes apart = apart

module _ (count : ℕ) (some : 0 < count) where
  -- A step that names places below `count` is not malformed
  step_formed : (step : Step) (bytes : List ℕ) → NamesBelow count step → malformed count (first_step (step_bytes step ++ bytes)) ≡ false
  step_formed (Clear t) bytes below = rw (lt-leb count t below, lt-leb count 0 some)
  step_formed (Copy t s) bytes below = rw (lt-leb count t below.0, lt-leb count s below.1)
  step_formed (Add t s) bytes below = rw (lt-leb count t below.0, lt-leb count s below.1)

  -- Steps that name places below `count`, none of which reads its own target, are well formed
  pub each_formed_written : (steps : List Step) → StepsBelow count steps → NoneOntoItself steps → EachFormed count (sheet_steps (length steps) (steps_bytes steps))
  unfolding steps_bytes sheet_steps
  each_formed_written [] below apart s m = absurd (Memᴰ.not-nil m)
  each_formed_written (step ∷ steps) below apart s m =
      ⊎_elim
      (λ here.
      rw here
      (record {
        not_malformed = step_formed step (steps_bytes steps) (below step (Memᴰ.head refl));
        not_onto_itself = apart_written step (steps_bytes steps) (apart step (Memᴰ.head refl));
      }))
      (λ later. each_formed_written steps (λ p n. below p (Memᴰ.tail n)) (λ p n. apart p (Memᴰ.tail n)) s
      (subst (λ (b : List ℕ). Memᴰ s (sheet_steps (length steps) b)) (behind_first_step step (steps_bytes steps)) later))
      (Memᴰ.cases_cons m)

-- The head fits the code that it was written for
pub head_fits_written : (code : LinearCode) (edition reads : ℕ) {failed wanted : List ℕ} → EditionFits edition failed wanted
    → HeadFits code (head_for edition code.layout code.data_symbols reads)
head_fits_written code edition reads fits = record { edition = known fits; count_fits = refl; disks = refl; height = refl; data_symbols = refl }
  where
    known : {failed wanted : List ℕ} → EditionFits edition failed wanted → (edition ≡ 1) ⊎ (edition ≡ 2) ⊎ (edition ≡ 3)
    known (First e one none) = inl e
    known (Second e one) = inr (inl e)
    known (Third e) = inr (inr e)
