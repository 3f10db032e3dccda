-- Laws of a pass: the adds that it takes in from the sheet, and what they make of a target that was replaced. Assumes nothing.
use mathlib.Core.Path.{◌≡◌, refl, sym, ap, ◌∙◌, subst}
use mathlib.Core.Bool.{true, not, ◌&&◌}
use mathlib.Core.Logic.{◌≢◌, ⊎_elim}
use mathlib.Core.List.Memᴰ
use mathlib.Core.List.{List, [], ◌∷◌, ◌++◌, map, Memᴰ}
use Prim.Native.Nat.{ℕ, ◌+◌, ◌≤◌, ◌<◌}
use native.Mathlib.Omega.{arith}
use lib.Dec.{eqb, leb}
use lib.ListN.{length}
use borrow.Author.Tests.{ne_eqb, leb-true, eqb-true, eqb-false, not-true}
use Rattle.bits.proofs.Booleans.{and_left, and_right}
use Rattle.gf2.specs.Plans.{target}
use Rattle.gf2.specs.declared.Step.{Step}
use Rattle.gf2.specs.declared.Step.TheVariants.{Add}
use Rattle.gf2.specs.Stripes.{symbol, SymbolWithin, xor_bytes, put_symbol, run_on_stripe}
use Rattle.passes.specs.InnerSums.{summed_parts, summed, EachWithin}
use Rattle.passes.proofs.SumLaws.{length_added}
use Rattle.plan_sheets.specs.PlanSheets.{step_of, step_at}
use Rattle.plan_sheets.specs.declared.step.SheetStep.{SheetStep}
use Rattle.plan_sheets.proofs.ReadingLaws.{steps_from_next, target_step_of}
use Rattle.stripes.specs.InnerPasses.{adds_other, adds_to, remaining_steps, TakenIn}
use Rattle.stripes.proofs.PutLaws.{add_to_put}

-- ------------------------------------------------------------------
-- The adds of a sheet

-- A step that adds another symbol to t is that add, of another symbol
pub add_of_other : (t : ℕ) (step : SheetStep) → adds_other t step ≡ true → (step_of step ≡ Add t step.source) × (step.source ≢ t)
add_of_other t step adds =
    let tests = and_left (leb 2 step.kind && eqb step.target t) (not (eqb step.source t)) adds in
    let kind_from_2 = leb-true 2 step.kind (and_left (leb 2 step.kind) (eqb step.target t) tests) in
    let at_t = eqb-true step.target t (and_right (leb 2 step.kind) (eqb step.target t) tests) in
    let other = and_right (leb 2 step.kind && eqb step.target t) (not (eqb step.source t)) adds in
    (rw (ne_eqb step.kind 0 (λ e. omega arith), ne_eqb step.kind 1 (λ e. omega arith), at_t), eqb-false step.source t (not-true (eqb step.source t) other))

-- One add more, behind those that were taken in
adds_to_more : (t : ℕ) (taken : List ℕ) (s : ℕ) (rest : List Step) → adds_to t taken ++ (Add t s ∷ rest) ≡ adds_to t (taken ++ (s ∷ [])) ++ rest
adds_to_more t [] s rest = refl
adds_to_more t (first ∷ taken) s rest = ap (λ (l : List Step). Add t first ∷ l) (adds_to_more t taken s rest)

module _ (bytes : List ℕ) (count t from : ℕ) where
  -- Before the first
  pub taken_none : (taken : List ℕ) → from ≤ count → taken ≡ [] → TakenIn bytes count t from from taken
  taken_none taken h none =
      subst (TakenIn bytes count t from from) (sym none) (record { number_to = h; adds = refl; others = λ s m. absurd (Memᴰ.not-nil m) })

  -- One more
  pub taken_next : (number : ℕ) (taken more : List ℕ) → number < count → TakenIn bytes count t from number taken → adds_other t (step_at bytes number) ≡ true
      → more ≡ taken ++ ((step_at bytes number).source ∷ []) → TakenIn bytes count t from (number + 1) more
  taken_next number taken more h so_far adds more-is =
      let step = step_at bytes number in
      let add = add_of_other t step adds in
      let next : remaining_steps bytes count number ≡ Add t step.source ∷ remaining_steps bytes count (number + 1) =
      ap (map step_of) (steps_from_next count bytes number h) ∙ ap (λ (s : Step). s ∷ remaining_steps bytes count (number + 1)) add.0 in
      subst (TakenIn bytes count t from (number + 1)) (sym more-is)
      (record {
        number_to = omega arith;
        adds =
            so_far.adds ∙ ap (λ (l : List Step). adds_to t taken ++ l) next
            ∙ adds_to_more t taken step.source (remaining_steps bytes count (number + 1));
        others =
            λ s m. ⊎_elim (so_far.others s) (λ n. subst (λ (k : ℕ). k ≢ t) (sym (Memᴰ.eq_of_singleton n)) add.1) (Memᴰ.append_cases taken m);
      })

-- The adds to a sheet step's target are those to the decoded step's
pub taken_behind_step : (bytes : List ℕ) (count from : ℕ) (step : SheetStep) (own : Step) (behind : ℕ) (taken : List ℕ) → own ≡ step_of step
    → TakenIn bytes count step.target from behind taken → TakenIn bytes count (target own) from behind taken
taken_behind_step bytes count from step own behind taken decoded =
    subst (λ (place : ℕ). TakenIn bytes count place from behind taken) (sym (ap target decoded ∙ target_step_of step))

-- ------------------------------------------------------------------
-- The adds on a stripe

-- Run on a stripe in which t was replaced, they leave t replaced by the sum
pub adds_on_put : (L : ℕ) (x : List ℕ) (t : ℕ) → SymbolWithin L (length x) t → (sources : List ℕ) (rest : List Step) (v : List ℕ) → length v ≡ L
    → EachWithin L (length x) sources → ((s : ℕ) → Memᴰ s sources → s ≢ t)
    → run_on_stripe L (adds_to t sources ++ rest) (put_symbol L x t v) ≡ run_on_stripe L rest (put_symbol L x t (summed L x v sources))
unfolding summed_parts run_on_stripe
adds_on_put L x t fits [] rest v v_length within others = refl
adds_on_put L x t fits (s ∷ sources) rest v v_length within others =
    let s_within = within s (Memᴰ.head refl) in
    ap (run_on_stripe L (adds_to t sources ++ rest)) (add_to_put L x t v fits v_length s s_within (others s (Memᴰ.head refl)))
    ∙ adds_on_put L x t fits sources rest (xor_bytes v (symbol L x s)) (length_added L x v s v_length s_within)
    (λ k m. within k (Memᴰ.tail m)) (λ k m. others k (Memᴰ.tail m))
