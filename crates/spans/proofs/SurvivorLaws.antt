-- The equations that elimination gives among the known rows are right and enough, whatever the code. Assumes nothing.
use mathlib.Core.Path.{◌≡◌, refl, sym, ap, ap₂, ◌∙◌, subst}
use mathlib.Core.Bool.{Bool, true, false, cond, not, true≢false}
use mathlib.Core.List.{List, [], ◌∷◌, map}
use Prim.Native.Nat.{ℕ, zero, suc, ◌/◌, ◌%◌, ◌^◌, ◌<◌}
use native.Mathlib.Decide.{dec_lt}
use native.Mathlib.Omega.{arith}
use lib.Bits.{bit_xor}
use lib.Dec.{eqb}
use lib.ListN.{length, get_or, length-map}
use borrow.Author.Tests.{eqb-true, eqb-false}
use Rattle.bits.specs.BitSets.{has, scale}
use Rattle.bits.proofs.Booleans.{bool_cases, and_left, and_true_if_both}
use Rattle.bits.proofs.ListLaws.{get_or_tabulate, get_or_tabulate_behind}
use Rattle.bits.proofs.SetLaws.{has_empty, has_zero, has_suc, has_sum, has_unit}
use Rattle.bits.proofs.XorLaws.{scale_zero}
use Rattle.gf2.specs.Plans.{Within, PlacesBelow, AgreeOn}
use Rattle.gf2.specs.Selection.{select, Below}
use Rattle.gf2.specs.Stripes.{AreBytes}
use Rattle.gf2.specs.InnerElimination.{pivots, nonempty, back_substitute, StartsWithUnits, units}
use Rattle.gf2.specs.InnerSubsetPlans.{survivors}
use Rattle.gf2.proofs.EliminationLaws.{length_units}
use Rattle.gf2.proofs.PlanningLaws.{get_or_survivors, survivors_below, subset_for_all_known}
use Rattle.gf2.proofs.SelectionLaws.{select_linear, get_or_map_linear}
use Rattle.spans.specs.Equations.{ComeFromData, MeetsAll, EquationsAmong}
use Rattle.spans.specs.InnerSpans.{equation_of, row_equations, unpivoted, equations_of, MadeFrom}
use Rattle.spans.proofs.SpanLaws.{select_unit}
use Rattle.spans.proofs.EquationLaws.{back_substitute_linear, equation_empty_if_pivot, equation_sums_to_zero, equation_meets_made, made_if_equations_met, linear_is_encoding}

-- ------------------------------------------------------------------
-- What is not 0 in a list

-- What holds of every entry, 0 among them, holds of those that are not 0
pub all_nonempty : (P : ℕ → Type 0) (xs : List ℕ) → P 0 → ((i : ℕ) → P (get_or xs i 0)) → (i : ℕ) → P (get_or (nonempty xs) i 0)
unfolding nonempty
all_nonempty P [] none all i = none
all_nonempty P (zero ∷ xs) none all i = all_nonempty P xs none (λ j. all (suc j)) i
all_nonempty P (suc x ∷ xs) none all zero = all 0
all_nonempty P (suc x ∷ xs) none all (suc i) = all_nonempty P xs none (λ j. all (suc j)) i

-- and the other way round
pub all_if_nonempty : (P : ℕ → Type 0) (xs : List ℕ) → P 0 → ((i : ℕ) → i < length (nonempty xs) → P (get_or (nonempty xs) i 0)) → (i : ℕ) → P (get_or xs i 0)
unfolding nonempty
all_if_nonempty P [] none all i = none
all_if_nonempty P (zero ∷ xs) none all zero = none
all_if_nonempty P (zero ∷ xs) none all (suc i) = all_if_nonempty P xs none all i
all_if_nonempty P (suc x ∷ xs) none all zero = all 0 (omega arith)
all_if_nonempty P (suc x ∷ xs) none all (suc i) = all_if_nonempty P xs none (λ j h. all (suc j) (omega arith)) i

-- ------------------------------------------------------------------
-- Selections by sets of known places

-- A chosen first place is known
chosen_alike : (known : ℕ → Bool) (set : ℕ) → Within (has set) known → (x y : ℕ) → (known 0 ≡ true → x ≡ y) → scale (set % 2) x ≡ scale (set % 2) y
unfolding scale
chosen_alike known set within x y same = by_bit (set % 2) refl (omega arith)
  where
    by_bit : (bit : ℕ) → set % 2 ≡ bit → bit < 2 → scale bit x ≡ scale bit y
    by_bit zero q small = refl
    by_bit (suc bit) q small =
        let one : set % 2 ≡ 1 = omega arith in
        same (within 0 (has_zero set ∙ ap (λ (b : ℕ). eqb b 1) one))

within_half : (known : ℕ → Bool) (set : ℕ) → Within (has set) known → Within (has (set / 2)) (λ s. known (suc s))
within_half known set within s chosen = within (suc s) (has_suc set s ∙ chosen)

-- A set of known places selects alike from lists that agree there
pub select_agrees : (known : ℕ → Bool) (xs ys : List ℕ) → AgreeOn known xs ys → (set : ℕ) → Within (has set) known → select xs set ≡ select ys set
unfolding select
select_agrees known [] [] agree set within = refl
select_agrees known [] (y ∷ ys) agree set within =
    sym
    (ap₂ bit_xor (sym (chosen_alike known set within 0 y (agree 0)) ∙ scale_zero (set % 2))
    (sym (select_agrees (λ s. known (suc s)) [] ys (λ s. agree (suc s)) (set / 2) (within_half known set within))))
select_agrees known (x ∷ xs) [] agree set within =
    ap₂ bit_xor (chosen_alike known set within x 0 (agree 0) ∙ scale_zero (set % 2))
    (select_agrees (λ s. known (suc s)) xs [] (λ s. agree (suc s)) (set / 2) (within_half known set within))
select_agrees known (x ∷ xs) (y ∷ ys) agree set within =
    ap₂ bit_xor (chosen_alike known set within x y (agree 0))
    (select_agrees (λ s. known (suc s)) xs ys (λ s. agree (suc s)) (set / 2) (within_half known set within))

-- ------------------------------------------------------------------
-- Right and enough

module _ (data_symbols : ℕ) (patterns : List ℕ) (start : StartsWithUnits data_symbols patterns) (rows : List ℕ) (rows_below : Below data_symbols rows) (known : ℕ → Bool)
    (known_below : PlacesBelow (length rows) known) where
  abbrev surviving : List ℕ
  surviving = survivors known rows

  abbrev found : List ℕ
  found = pivots patterns surviving

  abbrev chosen : ℕ → Bool
  chosen = unpivoted found known

  -- The known values, and 0 for the others, are the values at every known place
  survivors_agree : (values : List ℕ) → AgreeOn known (survivors known values) values
  survivors_agree values s is_known = get_or_survivors known values s ∙ ap (λ (c : Bool). cond c (get_or values s 0) 0) is_known

  -- A known row's equation is a set of known symbols
  equation_among_known : (j : ℕ) → known j ≡ true → Within (has (equation_of patterns surviving j)) known
  equation_among_known j is_known s chosen = by_unit (has (2 ^ j) s) refl (sym (has_sum (back_substitute found surviving (get_or surviving j 0)) (2 ^ j) s) ∙ chosen)
    where
      by_unit : (own : Bool) → has (2 ^ j) s ≡ own
          → cond own (not (has (back_substitute found surviving (get_or surviving j 0)) s)) (has (back_substitute found surviving (get_or surviving j 0)) s) ≡ true → known s ≡ true
      by_unit true q e = ap known (eqb-true s j (sym (has_unit j s) ∙ q)) ∙ is_known
      by_unit false q e = subset_for_all_known patterns known rows (get_or surviving j 0) s e

  -- and its rows sum to zero
  equation_of_known_rows : (j : ℕ) → known j ≡ true → select rows (equation_of patterns surviving j) ≡ 0
  equation_of_known_rows j is_known =
      sym (select_agrees known surviving rows (survivors_agree rows) (equation_of patterns surviving j) (equation_among_known j is_known))
      ∙ equation_sums_to_zero data_symbols patterns start surviving (survivors_below data_symbols known rows rows_below) j

  -- What holds of the empty set and of each known row's equation holds of every row's entry
  of_each_row : (P : ℕ → Type 0) → P 0 → ((j : ℕ) → known j ≡ true → P (equation_of patterns surviving j)) → (j : ℕ) → P (get_or (row_equations found surviving (length rows) chosen) j 0)
  of_each_row P none each j = by_side (dec_lt j (length rows))
    where
      entry : ℕ → ℕ
      entry k = cond (chosen k) (equation_of patterns surviving k) 0

      by_side : Dec (j < length rows) → P (get_or (row_equations found surviving (length rows) chosen) j 0)
      by_side (yes h) =
          subst P (sym (get_or_tabulate (length rows) entry j h))
          (bool_cases (λ c. chosen j ≡ c → P (cond c (equation_of patterns surviving j) 0)) (λ q. each j (and_left (known j) (eqb (get_or found j 0) 0) q)) (λ q. none) (chosen j) refl)
      by_side (no h) =
          subst P (sym (get_or_tabulate_behind (length rows) entry j (omega arith))) none

  -- The equation of a known row without a pivot is its entry
  entry_of_chosen : (j : ℕ) → known j ≡ true → eqb (get_or found j 0) 0 ≡ true → get_or (row_equations found surviving (length rows) chosen) j 0 ≡ equation_of patterns surviving j
  entry_of_chosen j is_known no_pivot =
      get_or_tabulate (length rows) (λ k. cond (chosen k) (equation_of patterns surviving k) 0) j (known_below j is_known)
      ∙ ap (λ (c : Bool). cond c (equation_of patterns surviving j) 0) (and_true_if_both (known j) (eqb (get_or found j 0) 0) is_known no_pivot)

  -- The equation of a row that is not known is its place alone
  equation_of_unknown : (j : ℕ) → known j ≡ false → equation_of patterns surviving j ≡ 2 ^ j
  equation_of_unknown j unknown =
      ap (λ (v : ℕ). bit_xor v (2 ^ j))
      (ap (back_substitute found surviving) (get_or_survivors known rows j ∙ ap (λ (c : Bool). cond c (get_or rows j 0) 0) unknown) ∙ (back_substitute_linear found surviving).of_zero)

  -- The symbols of each equation sum to zero when they come from data
  meets_if_from_data : (values : List ℕ) → ComeFromData data_symbols rows known values → (equation : ℕ) → Within (has equation) known → select rows equation ≡ 0
      → select values equation ≡ 0
  meets_if_from_data values from equation among zero_sum =
      let linear = select_linear from.contents in
      select_agrees known values (map (select from.contents) rows) (λ s is_known. sym (get_or_map_linear linear rows s ∙ from.gives s is_known)) equation among
      ∙ equation_meets_made linear rows equation zero_sum

  -- Bytes that meet them come from data
  from_data_if_met : (values : List ℕ) → AreBytes values → MeetsAll (equations_of patterns known rows) values → ComeFromData data_symbols rows known values
  from_data_if_met values bytes met =
      record {
        contents = map made.map_is (units data_symbols);
        contents_length = length-map (units data_symbols) made.map_is ∙ length_units data_symbols;
        contents_bytes =
            λ i. subst (λ (x : ℕ). x < 256) (sym (get_or_map_linear made.linear (units data_symbols) i)) (made.keeps_width 8 (survivors_below 8 known values bytes) (get_or (units data_symbols) i 0));
        gives =
            λ s is_known.
            linear_is_encoding data_symbols made.linear (get_or rows s 0) (rows_below s)
            ∙ ap made.map_is (sym (survivors_agree rows s is_known))
            ∙ made.makes s
            ∙ survivors_agree values s is_known;
      }
    where
      all_met : (j : ℕ) → select values (get_or (row_equations found surviving (length rows) chosen) j 0) ≡ 0
      all_met = all_if_nonempty (λ e. select values e ≡ 0) (row_equations found surviving (length rows) chosen) (select_linear values).of_zero met

      by_pivot : (j : ℕ) → known j ≡ true → (c : Bool) → eqb (get_or found j 0) 0 ≡ c → select values (equation_of patterns surviving j) ≡ 0
      by_pivot j is_known true none = ap (select values) (sym (entry_of_chosen j is_known none)) ∙ all_met j
      by_pivot j is_known false some =
          ap (select values) (equation_empty_if_pivot patterns surviving j (eqb-false (get_or found j 0) 0 some)) ∙ (select_linear values).of_zero

      by_known : (j : ℕ) (c : Bool) → known j ≡ c → select (survivors known values) (equation_of patterns surviving j) ≡ 0
      by_known j true q =
          select_agrees known (survivors known values) values (survivors_agree values) (equation_of patterns surviving j) (equation_among_known j q)
          ∙ by_pivot j q (eqb (get_or found j 0) 0) refl
      by_known j false q =
          ap (select (survivors known values)) (equation_of_unknown j q)
          ∙ select_unit (survivors known values) j
          ∙ get_or_survivors known values j
          ∙ ap (λ (c : Bool). cond c (get_or values j 0) 0) q

      made : MadeFrom surviving (survivors known values)
      made = made_if_equations_met patterns surviving (survivors known values) (λ j. by_known j (known j) refl)

  -- The equations are right and enough
  pub equations_right_and_enough : EquationsAmong data_symbols rows known (equations_of patterns known rows)
  equations_right_and_enough =
      record {
        among_known = λ e h. among e;
        rows_sum_to_zero = λ e h. zero_sum e;
        right = λ values from e h. meets_if_from_data values from (get_or (equations_of patterns known rows) e 0) (among e) (zero_sum e);
        enough = from_data_if_met;
      }
    where
      among : (e : ℕ) → Within (has (get_or (equations_of patterns known rows) e 0)) known
      among =
          all_nonempty (λ e. Within (has e) known) (row_equations found surviving (length rows) chosen) (λ s chosen. absurd (true≢false (sym chosen ∙ has_empty s)))
          (of_each_row (λ e. Within (has e) known) (λ s chosen. absurd (true≢false (sym chosen ∙ has_empty s))) equation_among_known)

      zero_sum : (e : ℕ) → select rows (get_or (equations_of patterns known rows) e 0) ≡ 0
      zero_sum =
          all_nonempty (λ e. select rows e ≡ 0) (row_equations found surviving (length rows) chosen) (select_linear rows).of_zero
          (of_each_row (λ e. select rows e ≡ 0) (select_linear rows).of_zero equation_of_known_rows)
