-- The images that the search begins with: empty ones need not be looked at, and rows of symbols that are neither known nor wanted decide nothing. Assumes nothing.
use mathlib.Core.Path.{◌≡◌, sym, ap, ◌∙◌}
use mathlib.Core.Bool.{Bool, true, cond}
use mathlib.Core.List.{List, [], ◌∷◌}
use Prim.Native.Nat.{ℕ, zero, suc, ◌<◌}
use native.Mathlib.Omega.{arith}
use lib.ListN.{length, get_or}
use Rattle.bits.specs.BitSets.{overlap}
use Rattle.bits.proofs.OverlapLaws.{overlap_zero_left}
use Rattle.gf2.specs.InnerElimination.{nonempty}
use Rattle.gf2.specs.InnerSubsetPlans.{survivors}
use Rattle.gf2.specs.Plans.{Within}
use Rattle.gf2.proofs.PlanningLaws.{get_or_survivors}
use Rattle.fewest.specs.InnerFewest.{EvenOnSet, Enough, Fewest, Image, Images, Avoids}

-- ------------------------------------------------------------------
-- Without the empty ones

-- What holds of all entries holds of those that are not 0
of_nonempty : (P : ℕ → Type 0) (xs : List ℕ) → ((j : ℕ) → j < length xs → P (get_or xs j 0)) → (i : ℕ) → i < length (nonempty xs) → P (get_or (nonempty xs) i 0)
unfolding nonempty
of_nonempty P [] all i h = absurd (omega arith)
of_nonempty P (zero ∷ xs) all i h = of_nonempty P xs (λ j q. all (suc j) (omega arith)) i h
of_nonempty P (suc x ∷ xs) all zero h = all 0 (omega arith)
of_nonempty P (suc x ∷ xs) all (suc i) h = of_nonempty P xs (λ j q. all (suc j) (omega arith)) i (omega arith)

-- and what holds of those and of 0 holds of all
if_of_nonempty : (P : ℕ → Type 0) (xs : List ℕ) → P 0 → ((i : ℕ) → i < length (nonempty xs) → P (get_or (nonempty xs) i 0)) → (j : ℕ) → j < length xs → P (get_or xs j 0)
unfolding nonempty
if_of_nonempty P [] of_zero some j h = absurd (omega arith)
if_of_nonempty P (zero ∷ xs) of_zero some zero h = of_zero
if_of_nonempty P (zero ∷ xs) of_zero some (suc j) h = if_of_nonempty P xs of_zero some j (omega arith)
if_of_nonempty P (suc x ∷ xs) of_zero some zero h = some 0 (omega arith)
if_of_nonempty P (suc x ∷ xs) of_zero some (suc j) h = if_of_nonempty P xs of_zero (λ i q. some (suc i) (omega arith)) j (omega arith)

pub images_nonempty : (rows : List ℕ) (taken : ℕ → Bool) (images : List ℕ) → Images rows taken (length images) images → Images rows taken (length (nonempty images)) (nonempty images)
images_nonempty rows taken images given =
    record {
      shown = of_nonempty (Image rows) images given.shown;
      avoid = of_nonempty (λ x. Avoids x taken) images given.avoid;
      decide = λ v all_even. given.decide v (if_of_nonempty (λ x. overlap x v ≡ 0) images (overlap_zero_left v) all_even);
    }

-- ------------------------------------------------------------------
-- Rows of the symbols involved alone

module _ (rows : List ℕ) (involved : ℕ → Bool) where
  row_kept : (s : ℕ) → involved s ≡ true → get_or (survivors involved rows) s 0 ≡ get_or rows s 0
  row_kept s is = get_or_survivors involved rows s ∙ ap (λ (c : Bool). cond c (get_or rows s 0) 0) is

  even_kept : (set : ℕ → Bool) → Within set involved → (pattern : ℕ) → EvenOnSet (survivors involved rows) set pattern → EvenOnSet rows set pattern
  even_kept set within pattern even s inside = sym (ap (overlap pattern) (row_kept s (within s inside))) ∙ even s inside

  even_cut : (set : ℕ → Bool) → Within set involved → (pattern : ℕ) → EvenOnSet rows set pattern → EvenOnSet (survivors involved rows) set pattern
  even_cut set within pattern even s inside = ap (overlap pattern) (row_kept s (within s inside)) ∙ even s inside

  -- What is enough by these rows is enough, and the other way round
  enough_kept : (wanted set : ℕ → Bool) → Within wanted involved → Within set involved → Enough (survivors involved rows) wanted set → Enough rows wanted set
  enough_kept wanted set wanted_in set_in enough pattern even = even_kept wanted wanted_in pattern (enough pattern (even_cut set set_in pattern even))

  enough_cut : (wanted set : ℕ → Bool) → Within wanted involved → Within set involved → Enough rows wanted set → Enough (survivors involved rows) wanted set
  enough_cut wanted set wanted_in set_in enough pattern even = even_cut wanted wanted_in pattern (enough pattern (even_kept set set_in pattern even))

  -- So the fewest by these rows are the fewest
  pub fewest_by_involved : {known wanted chosen : ℕ → Bool} {branchings : ℕ} → Within known involved → Within wanted involved
      → Fewest (survivors involved rows) known wanted branchings chosen → Fewest rows known wanted branchings chosen
  fewest_by_involved {known} {wanted} {chosen} known_in wanted_in fewest =
      record {
        within = fewest.within;
        enough = λ all. enough_kept wanted chosen wanted_in (λ s h. known_in s (fewest.within s h)) (fewest.enough (enough_cut wanted known wanted_in known_in all));
        otherwise = λ not-all. fewest.otherwise (λ all. not-all (enough_kept wanted known wanted_in known_in all));
        least =
            λ many other other_known enough. fewest.least many other other_known (enough_cut wanted other wanted_in (λ s h. known_in s (other_known s h)) enough);
      }
