-- Laws of what steps read: of one plan after the other, of steps from known places to others, and of the steps that fill a target from a subset. Assumes nothing.
use mathlib.Core.Path.{◌≡◌, refl, sym, ap, ◌∙◌}
use mathlib.Core.Bool.{Bool, true, false, cond, ◌&&◌, ◌||◌, or_assoc, true≢false}
use mathlib.Core.List.Memᴰ
use mathlib.Core.List.{List, [], ◌∷◌, ◌++◌}
use Prim.Native.Nat.{ℕ, zero, suc, ◌+◌, ◌^◌, ◌≤◌, ◌<◌}
use native.Mathlib.Omega.{arith}
use native.Mathlib.Decide.{dec_lt}
use lib.Dec.{eqb, leb, leb-zero}
use borrow.Author.Tests.{le-leb, lt-leb, leb-true, eqb-true, eqb-false}
use Rattle.bits.specs.BitSets.{has}
use Rattle.gf2.specs.InnerSubsetPlans.{add_all, fill_from}
use Rattle.gf2.specs.Plans.{target, reads, read_by_any, NoneOntoItself, UsesOnlyKnown, done, next}
use Rattle.gf2.specs.declared.Step.{Step}
use Rattle.gf2.specs.declared.Step.TheVariants.{Copy, Add}
use Rattle.bits.proofs.Booleans.{bool_cases, or_true_if_left, or_true_if_right}
use Rattle.bits.proofs.SetLaws.{has_above}

-- Steps and others behind them read what either read
pub read_by_any_append : (s : ℕ) (xs ys : List Step) → read_by_any s (xs ++ ys) ≡ (read_by_any s xs || read_by_any s ys)
unfolding read_by_any
read_by_any_append s [] ys = refl
read_by_any_append s (p ∷ xs) ys =
    ap (λ (c : Bool). reads s p || c) (read_by_any_append s xs ys) ∙ sym (or_assoc (reads s p) (read_by_any s xs) (read_by_any s ys))

-- Where all that is written is lost and all that is read is known, no step is onto itself
pub none_onto_itself : {writable filled : ℕ → Bool} {steps : List Step} → UsesOnlyKnown writable filled steps → (known : ℕ → Bool)
    → ((s : ℕ) → writable s ≡ true → known s ≡ false) → ((s : ℕ) → read_by_any s steps ≡ true → known s ≡ true) → NoneOntoItself steps
unfolding read_by_any
none_onto_itself done known writes_lost reads_known p there = elim there [ ]
none_onto_itself (next {p = first} {ps = rest} may_write is_ready uses) known writes_lost reads_known p (Memᴰ.head same) =
    rw same
    (bool_cases (λ c. reads (target first) first ≡ c → c ≡ false)
    (λ own. absurd (true≢false (sym (reads_known (target first) (or_true_if_left (reads (target first) first) _ own)) ∙ writes_lost (target first) may_write)))
    (λ apart. refl) (reads (target first) first) refl)
none_onto_itself (next {p = first} {ps = rest} may_write is_ready uses) known writes_lost reads_known p (Memᴰ.tail m) =
    none_onto_itself uses known writes_lost (λ s read. reads_known s (or_true_if_right (reads s first) (read_by_any s rest) read)) p m

-- ------------------------------------------------------------------
-- The steps for one target

module _ (subset s : ℕ) where
  -- A subset's elements from a place on are that place, if it is one, and those behind it
  element_from : (first : ℕ) (later others : Bool) → later ≡ (leb (suc first) s && has subset s) → others ≡ (leb (suc first) s && has subset s)
      → cond (has subset first) (eqb first s || later) others ≡ (leb first s && has subset s)
  element_from first later others e f = by_place (eqb first s) refl
    where
      here : (c : Bool) → first ≡ s → cond c true others ≡ c
      here true same = refl
      here false same = f ∙ ap (λ (d : Bool). d && has subset s) (lt-leb (suc first) s (omega arith))

      same_test : (first ≡ s → ⊥) → Dec (first < s) → leb (suc first) s ≡ leb first s
      same_test apart (yes h) = le-leb (suc first) s h ∙ sym (le-leb first s (omega arith))
      same_test apart (no h) = lt-leb (suc first) s (omega arith) ∙ sym (lt-leb first s (omega arith))

      by_place : (at : Bool) → eqb first s ≡ at → cond (has subset first) (at || later) others ≡ (leb first s && has subset s)
      by_place true q =
          let same : first ≡ s = eqb-true first s q in
          here (has subset first) same ∙ ap (has subset) same ∙ sym (ap (λ (d : Bool). d && has subset s) (le-leb first s (omega arith)))
      by_place false q =
          bool_cases (λ c. cond c later others ≡ (leb (suc first) s && has subset s)) e f (has subset first)
          ∙ ap (λ (d : Bool). d && has subset s) (same_test (eqb-false first s q) (dec_lt first s))

  -- Behind the last place there is none
  element_none : (first : ℕ) → (first ≤ s → has subset s ≡ false) → false ≡ (leb first s && has subset s)
  element_none first none = by_test (leb first s) refl
    where
      by_test : (c : Bool) → leb first s ≡ c → false ≡ (c && has subset s)
      by_test true q = sym (none (leb-true first s q))
      by_test false q = refl

  -- Adding the places of a subset reads its elements
  read_by_any_add_all : (t first count : ℕ) → (first + count ≤ s → has subset s ≡ false)
      → read_by_any s (add_all t first count subset) ≡ (leb first s && has subset s)
  unfolding read_by_any add_all
  read_by_any_add_all t first zero none = element_none first (λ h. none (omega arith))
  read_by_any_add_all t first (suc count) none =
      let later = add_all t (suc first) count subset in
      let below = read_by_any_add_all t (suc first) count (λ h. none (omega arith)) in
      bool_cases (λ c. read_by_any s (cond c (Add t first ∷ later) later) ≡ cond c (eqb first s || read_by_any s later) (read_by_any s later))
      refl refl (has subset first)
      ∙ element_from first _ _ below below

  -- Filling a target from a subset reads its elements
  read_by_any_fill_from : (t first count : ℕ) → (first + count ≤ s → has subset s ≡ false)
      → read_by_any s (fill_from t first count subset) ≡ (leb first s && has subset s)
  unfolding read_by_any fill_from
  read_by_any_fill_from t first zero none = element_none first (λ h. none (omega arith))
  read_by_any_fill_from t first (suc count) none =
      let added = add_all t (suc first) count subset in
      let later = fill_from t (suc first) count subset in
      bool_cases (λ c. read_by_any s (cond c (Copy t first ∷ added) later) ≡ cond c (eqb first s || read_by_any s added) (read_by_any s later))
      refl refl (has subset first)
      ∙ element_from first _ _ (read_by_any_add_all t (suc first) count (λ h. none (omega arith)))
      (read_by_any_fill_from t (suc first) count (λ h. none (omega arith)))

  -- Filling a target from a set of so many places reads just the set
  pub fill_reads_subset : (t count : ℕ) → subset < 2 ^ count → read_by_any s (fill_from t 0 count subset) ≡ has subset s
  fill_reads_subset t count below =
      read_by_any_fill_from t 0 count (λ h. has_above count subset s below (omega arith))
      ∙ ap (λ (c : Bool). c && has subset s) (leb-zero s)
