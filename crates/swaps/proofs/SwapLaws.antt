-- Laws of swaps. Assumes nothing.
use mathlib.Core.Path.{◌≡◌, refl, sym, ap, ap₂, ◌∙◌, subst}
use mathlib.Core.Bool.{Bool, true, false, not, true≢false}
use mathlib.Core.List.{List}
use Prim.Native.Nat.{ℕ, ◌+◌, ◌≤◌, ◌<◌}
use native.Mathlib.Numerals.{add-one}
use native.Mathlib.Omega.{arith}
use lib.Bits.{bit_or, bit_xor}
use lib.Ieee.{Float, lt}
use lib.ListN.{length, get_or, set}
use lib.Seq.{get_or-set_same, get_or-set_other, set_out}
use native.Mathlib.Decide.{dec_lt}
use borrow.Author.Tests.{eqb-true, eqb-false}
use lib.Dec.{eqb}
use Rattle.bits.specs.BitSets.{has}
use Rattle.std.specs.Prelude.{Option, Some, None}
use Rattle.std.specs.Option.{is_some}
use Rattle.gf2.specs.Plans.{PlacesBelow}
use Rattle.prices.specs.Prices.{sum_of}
use Rattle.prices.proofs.FloatOrder.{lt_transitive, lt_irreflexive, lt_asymmetric}
use Rattle.swaps.specs.Swaps.{Terms, read_by, cost_of, swapped, lowers, Made, AfterSwaps, none, one_more, NoSwapLowers, most_swaps, Settled}
use Rattle.swaps.specs.InnerSwaps.{lowers_with, LoweringAmong, Lowering}
use Rattle.swaps.specs.declared.Swap.{Swap}
use Rattle.swaps.proofs.UnionLaws.{read_with}

-- ------------------------------------------------------------------
-- The search for a swap

module _ (terms : Terms) (sets : List ℕ) (target : ℕ) (within : target < length sets) (others own : ℕ) (cost : Float)
    (others_are : others ≡ read_by (set sets target 0)) (own_is : own ≡ get_or sets target 0) (cost_is : cost ≡ cost_of terms sets) where
  -- The test is whether the swap lowers the sum
  pub tested_is_lowers : (e : ℕ) → lowers_with terms others own cost e ≡ lowers terms sets target e
  tested_is_lowers e =
      ap₂ lt
      (ap (λ (n : ℕ). sum_of terms.layout terms.states (has n))
      (ap₂ (λ (o s : ℕ). bit_or o (bit_xor s (get_or terms.equations e 0))) others_are own_is
      ∙ sym (read_with sets target (bit_xor (get_or sets target 0) (get_or terms.equations e 0)) within)))
      cost_is

module _ (terms : Terms) (sets : List ℕ) (from symbols : ℕ) where
  -- Where there is none, what is found before it; where neither has a swap, none lowers the sum
  pub found_early : PlacesBelow symbols terms.wanted → LoweringAmong terms sets from symbols None → (early : Option Swap) → LoweringAmong terms sets 0 from early
      → Lowering terms sets early
  found_early below none_late (Some swap) among = among
  found_early below none_late None none_early = λ target equation is_wanted listed. by_side target equation is_wanted listed (dec_lt target from)
    where
      by_side : (target equation : ℕ) → terms.wanted target ≡ true → equation < length terms.equations → Dec (target < from)
          → lowers terms sets target equation ≡ false
      by_side target equation is_wanted listed (yes before) = none_early target equation (omega arith) before is_wanted listed
      by_side target equation is_wanted listed (no behind) = none_late target equation (omega arith) (below target is_wanted) is_wanted listed

-- ------------------------------------------------------------------
-- One more swap

pub after_one_more : {terms : Terms} {start sets : List ℕ} {swaps target equation : ℕ} → AfterSwaps terms start swaps sets → Made terms sets target equation
    → (new : List ℕ) → new ≡ swapped terms sets target equation → AfterSwaps terms start (swaps + 1) new
after_one_more {terms = terms} {start = start} {sets = sets} {swaps = swaps} {target = target} {equation = equation} made more new New-is =
    subst (AfterSwaps terms start (swaps + 1)) (sym New-is)
    (subst (λ (n : ℕ). AfterSwaps terms start n (swapped terms sets target equation)) (sym (add-one swaps)) (one_more made more))

-- ------------------------------------------------------------------
-- What swaps lead to

-- Each swap lowers the sum, so all of them do
pub swaps_lower : {terms : Terms} {start sets : List ℕ} {swaps : ℕ} → AfterSwaps terms start swaps sets → 1 ≤ swaps → lt (cost_of terms sets) (cost_of terms start) ≡ true
swaps_lower none some = absurd (omega arith)
swaps_lower (one_more none last) some = last.lower
swaps_lower {terms = terms} {start = start} (one_more {sets = sets} {target = target} {equation = equation} (one_more before earlier) last) some =
    lt_transitive (cost_of terms (swapped terms sets target equation)) (cost_of terms sets) (cost_of terms start) last.lower (swaps_lower (one_more before earlier) (omega arith))

-- and the final sets are never dearer than the start
pub never_dearer_than_start : {terms : Terms} {start sets : List ℕ} {swaps : ℕ} → AfterSwaps terms start swaps sets → lt (cost_of terms start) (cost_of terms sets) ≡ false
never_dearer_than_start {terms = terms} {start = start} none = lt_irreflexive (cost_of terms start)
never_dearer_than_start {terms = terms} {start = start} (one_more {sets = sets} {target = target} {equation = equation} before last) =
    lt_asymmetric (cost_of terms (swapped terms sets target equation)) (cost_of terms start) (swaps_lower (one_more before last) (omega arith))

-- Another set at one place: what holds of the others and of it holds of all. A set at a place that the sets do not have is empty
right_with : (Right : ℕ → ℕ → Type 0) (sets : List ℕ) (target new : ℕ) → ((u : ℕ) → Right u (get_or sets u 0)) → Right target new
    → (t : ℕ) → Right t (get_or (set sets target new) t 0)
right_with Right sets target new right new_right t = by_place (eqb t target) refl (dec_lt target (length sets))
  where
    by_place : (c : Bool) → eqb t target ≡ c → Dec (target < length sets) → Right t (get_or (set sets target new) t 0)
    by_place false other within = subst (Right t) (sym (get_or-set_other sets target t new 0 (eqb-false t target other))) (right t)
    by_place true same (yes within) =
        subst (λ (u : ℕ). Right u (get_or (set sets target new) u 0)) (sym (eqb-true t target same)) (subst (Right target) (sym (get_or-set_same sets target new 0 within)) new_right)
    by_place true same (no behind) = subst (λ (l : List ℕ). Right t (get_or l t 0)) (sym (set_out sets target new (omega arith))) (right t)

-- Whatever each swap keeps of each set, all swaps keep
pub kept_by_swaps : (Right : ℕ → ℕ → Type 0) {terms : Terms}
    → ((t s e : ℕ) → terms.wanted t ≡ true → e < length terms.equations → Right t s → Right t (bit_xor s (get_or terms.equations e 0)))
    → {start sets : List ℕ} {swaps : ℕ} → ((t : ℕ) → Right t (get_or start t 0)) → AfterSwaps terms start swaps sets → (t : ℕ) → Right t (get_or sets t 0)
kept_by_swaps Right keeps right none = right
kept_by_swaps Right {terms = terms} keeps right (one_more {sets = sets} {target = target} {equation = equation} before last) =
    let so_far = kept_by_swaps Right keeps right before in
    right_with Right sets target (bit_xor (get_or sets target 0) (get_or terms.equations equation 0)) so_far
    (keeps target (get_or sets target 0) equation last.of_wanted last.of_list (so_far target))

-- ------------------------------------------------------------------
-- The answer

-- Where no swap lowers the sum, the sets are settled
pub settled_if_none : {terms : Terms} {start sets : List ℕ} {cost : Float} {swaps : ℕ} → AfterSwaps terms start swaps sets → swaps ≤ most_swaps
    → cost ≡ cost_of terms sets → NoSwapLowers terms sets → Settled terms start sets cost swaps true
settled_if_none made few cost_is none_lower =
    record {
      made = made;
      at_most = few;
      cost_is = cost_is;
      never_dearer = ap (lt _) cost_is ∙ never_dearer_than_start made;
      settled_exactly = (λ yes. none_lower, λ none_left. refl);
      stopped_after = λ no. absurd (true≢false no);
    }

-- After the last swap the answer is stopped where there is one more
pub stopped_if_found : {terms : Terms} {start sets : List ℕ} {cost : Float} {swaps target equation : ℕ} → AfterSwaps terms start swaps sets
    → swaps ≡ most_swaps → cost ≡ cost_of terms sets → Made terms sets target equation → Settled terms start sets cost swaps false
stopped_if_found {target = target} {equation = equation} made last cost_is more =
    record {
      made = made;
      at_most = omega (arith, last);
      cost_is = cost_is;
      never_dearer = ap (lt _) cost_is ∙ never_dearer_than_start made;
      settled_exactly = (
        λ yes. absurd (true≢false (sym yes)),
        λ none_left. absurd (true≢false (sym more.lower ∙ none_left target equation more.of_wanted more.of_list)),
      );
      stopped_after = λ no. last;
    }

-- After the last swap the answer is settled exactly where there is no other
pub settled_by_next : {terms : Terms} {start sets : List ℕ} {cost : Float} {swaps : ℕ} (next : Option Swap) (settled : Bool) → is_some next ≡ not settled
    → Lowering terms sets next → AfterSwaps terms start swaps sets → swaps ≡ most_swaps → cost ≡ cost_of terms sets → Settled terms start sets cost swaps settled
settled_by_next (Some swap) true tested more made last cost_is = absurd (true≢false tested)
settled_by_next (Some swap) false tested more made last cost_is = stopped_if_found made last cost_is more
settled_by_next None true tested none_lower made last cost_is = settled_if_none made (omega (arith, last)) cost_is none_lower
settled_by_next None false tested none_lower made last cost_is = absurd (true≢false (sym tested))
