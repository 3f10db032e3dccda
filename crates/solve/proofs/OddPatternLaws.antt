-- Laws of the first odd pattern: looked for symbol by symbol, and what it says where one is found and where none is. Assumes nothing.
use mathlib.Core.Path.{◌≡◌, refl, sym, ap, ap₂, ◌∙◌, subst}
use mathlib.Core.Bool.{Bool, true, false, cond}
use mathlib.Core.List.{List, [], ◌∷◌, Memᴰ}
use Prim.Native.Nat.{ℕ, suc, ◌+◌, ◌-◌, ◌^◌, ◌≤◌, ◌<◌}
use native.Mathlib.Numerals.{add-one}
use native.Mathlib.Omega.{arith}
use lib.Dec.{eqb}
use lib.ListN.{get_or}
use borrow.Author.Tests.{eqb-true, eqb-false}
use Rattle.bits.specs.BitSets.{overlap}
use Rattle.bits.specs.Lists.{symbols_in}
use Rattle.bits.proofs.Booleans.{bool_cases}
use Rattle.gf2.specs.InnerElimination.{pivot_for, remaining, nonempty, units, EvenOn}
use Rattle.gf2.specs.InnerSubsetPlans.{survivors}
use Rattle.gf2.proofs.EliminationLaws.{pivot_even_if_all_even, even_if_no_pivot, odd_if_pivot, pivot_below, remaining_below, starts_with_units_below}
use Rattle.gf2.proofs.IdentityRowLaws.{pivot_for_nonempty}
use Rattle.gf2.proofs.PlanningLaws.{remaining_even_on_known}
use Rattle.solve.specs.InnerSolving.{odd_pattern}

-- ------------------------------------------------------------------
-- Symbol by symbol

-- The first that is odd on the row of a wanted symbol from one on
abbrev pub odd_from : List ℕ → List ℕ → ℕ → (ℕ → Bool) → ℕ → ℕ
odd_from patterns rows symbols wanted s = odd_pattern patterns rows (symbols_in wanted s (symbols - s))

module _ (patterns rows : List ℕ) (symbols : ℕ) (wanted : ℕ → Bool) (s : ℕ) where
  module _ (l : s < symbols) where
    left_from : symbols - s ≡ suc (symbols - (s + 1))
    left_from = omega arith

    odd_here : wanted s ≡ true
        → odd_from patterns rows symbols wanted s
        ≡ cond (eqb (pivot_for patterns (get_or rows s 0)) 0) (odd_from patterns rows symbols wanted (s + 1)) (pivot_for patterns (get_or rows s 0))
    unfolding symbols_in odd_pattern
    odd_here q = rw (left_from, q, add-one)

    -- A symbol that is not wanted
    pub odd_skip : {all : ℕ} → odd_from patterns rows symbols wanted s ≡ all → wanted s ≡ false → odd_from patterns rows symbols wanted (s + 1) ≡ all
    unfolding symbols_in odd_pattern
    odd_skip e q = sym (rw (left_from, q, add-one)) ∙ e

    module _ {all pattern : ℕ} (e : odd_from patterns rows symbols wanted s ≡ all) (q : wanted s ≡ true) (f : pattern ≡ pivot_for patterns (get_or rows s 0)) where
      by_pattern : cond (eqb pattern 0) (odd_from patterns rows symbols wanted (s + 1)) pattern ≡ all
      by_pattern = ap (λ (p : ℕ). cond (eqb p 0) (odd_from patterns rows symbols wanted (s + 1)) p) f ∙ sym (odd_here q) ∙ e

      -- A pattern that is odd on this row
      pub odd_first : eqb pattern 0 ≡ false → pattern ≡ all
      odd_first g = sym (ap (λ (c : Bool). cond c (odd_from patterns rows symbols wanted (s + 1)) pattern) g) ∙ by_pattern

      -- None is odd on this row
      pub odd_later : eqb pattern 0 ≡ true → odd_from patterns rows symbols wanted (s + 1) ≡ all
      odd_later g = sym (ap (λ (c : Bool). cond c (odd_from patterns rows symbols wanted (s + 1)) pattern) g) ∙ by_pattern

  -- Behind the last symbol none is left
  pub odd_none : symbols ≤ s → odd_from patterns rows symbols wanted s ≡ 0
  unfolding symbols_in odd_pattern
  odd_none h =
      let none : symbols - s ≡ 0 = omega arith in
      rw none refl

-- Patterns that are 0 do not change which is found
pub odd_pattern_nonempty : (patterns rows targets : List ℕ) → odd_pattern (nonempty patterns) rows targets ≡ odd_pattern patterns rows targets
unfolding odd_pattern
odd_pattern_nonempty patterns rows [] = refl
odd_pattern_nonempty patterns rows (t ∷ targets) =
    ap₂ (λ (pattern later : ℕ). cond (eqb pattern 0) later pattern) (pivot_for_nonempty patterns (get_or rows t 0)) (odd_pattern_nonempty patterns rows targets)

-- ------------------------------------------------------------------
-- Found, or not

-- Where none was found, no target's row has a pivot
no_pivot_if_none_found : (patterns rows targets : List ℕ) → odd_pattern patterns rows targets ≡ 0
    → (t : ℕ) → Memᴰ t targets → pivot_for patterns (get_or rows t 0) ≡ 0
unfolding odd_pattern
no_pivot_if_none_found patterns rows (first ∷ targets) none t (Memᴰ.head same) =
    bool_cases (λ c. eqb pattern 0 ≡ c → cond c (odd_pattern patterns rows targets) pattern ≡ 0 → pattern ≡ 0)
    (λ q e. eqb-true pattern 0 q) (λ q e. e) (eqb pattern 0) refl (rw same none)
  where
    pattern : ℕ
    pattern = pivot_for patterns (get_or rows t 0)
no_pivot_if_none_found patterns rows (first ∷ targets) none t (Memᴰ.tail m) =
    no_pivot_if_none_found patterns rows targets
    (bool_cases (λ c. eqb pattern 0 ≡ c → cond c (odd_pattern patterns rows targets) pattern ≡ 0 → odd_pattern patterns rows targets ≡ 0)
    (λ q e. e) (λ q e. absurd (eqb-false pattern 0 q e)) (eqb pattern 0) refl none)
    t m
  where
    pattern : ℕ
    pattern = pivot_for patterns (get_or rows first 0)
no_pivot_if_none_found patterns rows [] none t there = elim there [ ]

-- A target of whose row the pattern is the pivot
record PivotOfTarget (patterns rows targets : List ℕ) (pattern : ℕ) : Type 0 where
  place : ℕ
  among : Memᴰ place targets
  pivot : pattern ≡ pivot_for patterns (get_or rows place 0)

-- Where a pattern was found, it is the pivot of a target's row
pivot_if_found : (patterns rows targets : List ℕ) → (odd_pattern patterns rows targets ≡ 0 → ⊥)
    → PivotOfTarget patterns rows targets (odd_pattern patterns rows targets)
unfolding odd_pattern
pivot_if_found patterns rows [] found = absurd (found refl)
pivot_if_found patterns rows (first ∷ targets) found =
    bool_cases
    (λ c. eqb pattern 0 ≡ c → (cond c (odd_pattern patterns rows targets) pattern ≡ 0 → ⊥)
    → PivotOfTarget patterns rows (first ∷ targets) (cond c (odd_pattern patterns rows targets) pattern))
    (λ q some. later (pivot_if_found patterns rows targets some))
    (λ q some. record { place = first; among = Memᴰ.head refl; pivot = refl })
    (eqb pattern 0) refl found
  where
    pattern : ℕ
    pattern = pivot_for patterns (get_or rows first 0)

    later : {p : ℕ} → PivotOfTarget patterns rows targets p → PivotOfTarget patterns rows (first ∷ targets) p
    later target = record { place = target.place; among = Memᴰ.tail target.among; pivot = target.pivot }

-- A pattern that shows a target out of reach: it overlaps each known row evenly, and the target's row oddly
pub record ShowsTarget (data_symbols : ℕ) (known : ℕ → Bool) (rows targets : List ℕ) (pattern : ℕ) : Type 0 where
  pub place : ℕ
  pub among : Memᴰ place targets
  pub bits_below : pattern < 2 ^ data_symbols
  pub even_on_known : (s : ℕ) → known s ≡ true → overlap pattern (get_or rows s 0) ≡ 0
  pub odd_there : overlap pattern (get_or rows place 0) ≡ 1

module _ (data_symbols : ℕ) (known : ℕ → Bool) (rows targets : List ℕ) where
  -- The patterns that elimination over the known rows leaves
  abbrev left : List ℕ
  left = remaining (units data_symbols) (survivors known rows)

  -- Where none is odd on a target's row, all are even on each
  pub even_if_none_found : odd_pattern left rows targets ≡ 0 → (t : ℕ) → Memᴰ t targets → EvenOn left (get_or rows t 0)
  even_if_none_found none t m = even_if_no_pivot left (get_or rows t 0) (no_pivot_if_none_found left rows targets none t m)

  -- One that is found shows a target out of reach
  pub shows_if_found : (odd_pattern left rows targets ≡ 0 → ⊥) → ShowsTarget data_symbols known rows targets (odd_pattern left rows targets)
  shows_if_found found =
      let target = pivot_if_found left rows targets found in
      let row = get_or rows target.place 0 in
      subst (ShowsTarget data_symbols known rows targets) (sym target.pivot)
      (record {
        place = target.place;
        among = target.among;
        bits_below =
            pivot_below data_symbols left row
            (remaining_below data_symbols (units data_symbols) (survivors known rows)
            (starts_with_units_below data_symbols (units data_symbols) (λ i. refl)));
        even_on_known = λ s is_known. pivot_even_if_all_even left row (get_or rows s 0) (remaining_even_on_known (units data_symbols) known rows s is_known);
        odd_there = odd_if_pivot left row (λ none. found (target.pivot ∙ none));
      })
