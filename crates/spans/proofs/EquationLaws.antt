-- The equations among rows are right and enough: values meet them exactly if some linear map makes them from the rows. Assumes nothing.
use mathlib.Core.Path.{◌≡◌, refl, sym, ap, ap₂, ◌∙◌}
use mathlib.Core.List.{List, [], ◌∷◌, map}
use Prim.Native.Nat.{ℕ, zero, suc, ◌+◌, ◌*◌, ◌/◌, ◌%◌, ◌^◌, ◌<◌}
use native.Mathlib.Nat.{pow-suc}
use native.Mathlib.Omega.{arith}
use lib.Bits.{bit_xor, xor_self, xor_zero_r, xor_lt}
use lib.ListN.{get_or}
use Rattle.bits.specs.BitSets.{overlap}
use Rattle.bits.proofs.XorLaws.{xor_half, xor_low_bit, xor_interchange, equal_if_xor_zero}
use Rattle.bits.proofs.OverlapLaws.{overlap_below_two, overlap_zero_right, overlap_xor_right}
use Rattle.gf2.specs.Selection.{select, Linear, Below}
use Rattle.gf2.specs.InnerElimination.{pivot_for, reduce_patterns, pivots, EvenOn, back_substitute, residue, StartsWithUnits, units}
use Rattle.gf2.proofs.SelectionLaws.{select_linear, select_below}
use Rattle.gf2.proofs.EliminationLaws.{pivot_even_if_all_even, odd_if_pivot, remaining_even_on_rows, subset_sums_if_remaining_even}
use Rattle.spans.specs.InnerSpans.{equation_of, MadeFrom}
use Rattle.spans.proofs.SpanLaws.{select_map_linear, select_unit, select_units, reduced_even_on_row, reduced_stay_even}

-- ------------------------------------------------------------------
-- Back substitution is linear

-- A sum of doubles and bits is taken one by one
double_xor : (m n a b : ℕ) → a < 2 → b < 2 → bit_xor m n * 2 + bit_xor a b ≡ bit_xor (m * 2 + a) (n * 2 + b)
double_xor m n a b a_small b_small =
    let halves : (bit_xor m n * 2 + bit_xor a b) / 2 ≡ bit_xor (m * 2 + a) (n * 2 + b) / 2 =
    half (bit_xor m n) (bit_xor a b) (xor_lt 1 a b a_small b_small)
    ∙ ap₂ bit_xor (sym (half m a a_small)) (sym (half n b b_small))
    ∙ sym (xor_half (m * 2 + a) (n * 2 + b)) in
    let low_bits : (bit_xor m n * 2 + bit_xor a b) % 2 ≡ bit_xor (m * 2 + a) (n * 2 + b) % 2 =
    low_bit (bit_xor m n) (bit_xor a b) (xor_lt 1 a b a_small b_small)
    ∙ ap₂ bit_xor (sym (low_bit m a a_small)) (sym (low_bit n b b_small))
    ∙ sym (xor_low_bit (m * 2 + a) (n * 2 + b)) in
    omega (arith, halves, low_bits)
  where
    half : (m a : ℕ) → a < 2 → (m * 2 + a) / 2 ≡ m
    half m a h = omega arith

    low_bit : (m a : ℕ) → a < 2 → (m * 2 + a) % 2 ≡ a
    low_bit m a h = omega arith

-- What is left of a sum is the sum of what is left
residue_xor : (rows : List ℕ) (v w m n : ℕ) → bit_xor (bit_xor v w) (select rows (bit_xor m n)) ≡ bit_xor (bit_xor v (select rows m)) (bit_xor w (select rows n))
residue_xor rows v w m n = ap (bit_xor (bit_xor v w)) ((select_linear rows).of_sum m n) ∙ xor_interchange v w (select rows m) (select rows n)

-- The subset for a sum is the sum of the subsets
back_substitute_xor : (found rows : List ℕ) (v w : ℕ) → back_substitute found rows (bit_xor v w) ≡ bit_xor (back_substitute found rows v) (back_substitute found rows w)
unfolding back_substitute
back_substitute_xor [] rows v w = refl
back_substitute_xor (pivot ∷ found) [] v w = refl
back_substitute_xor (pivot ∷ found) (row ∷ rows) v w =
    ap (λ (x : ℕ). x * 2 + overlap pivot (bit_xor (bit_xor v w) (select rows x))) (back_substitute_xor found rows v w)
    ∙ ap (λ (x : ℕ). bit_xor (back_substitute found rows v) (back_substitute found rows w) * 2 + x)
    (ap (overlap pivot) (residue_xor rows v w (back_substitute found rows v) (back_substitute found rows w))
    ∙ overlap_xor_right pivot (residue found rows v) (residue found rows w))
    ∙ double_xor (back_substitute found rows v) (back_substitute found rows w) (overlap pivot (residue found rows v)) (overlap pivot (residue found rows w))
    (overlap_below_two pivot (residue found rows v)) (overlap_below_two pivot (residue found rows w))

pub back_substitute_linear : (found rows : List ℕ) → Linear (back_substitute found rows)
back_substitute_linear found rows =
    record {
      of_zero = ap (back_substitute found rows) (sym (xor_self 0)) ∙ back_substitute_xor found rows 0 0 ∙ xor_self (back_substitute found rows 0);
      of_sum = back_substitute_xor found rows;
    }

linear_compose : {f g : ℕ → ℕ} → Linear f → Linear g → Linear (λ (x : ℕ). f (g x))
linear_compose {f} {g} outer inner =
    record { of_zero = ap f inner.of_zero ∙ outer.of_zero; of_sum = λ a b. ap f (inner.of_sum a b) ∙ outer.of_sum (g a) (g b) }

-- ------------------------------------------------------------------
-- Right

-- The rows of an equation sum to 0
pub equation_sums_to_zero : (width : ℕ) (patterns : List ℕ) → StartsWithUnits width patterns → (rows : List ℕ) → Below width rows → (j : ℕ)
    → select rows (equation_of patterns rows j) ≡ 0
equation_sums_to_zero width patterns start rows rows_below j =
    (select_linear rows).of_sum (back_substitute (pivots patterns rows) rows (get_or rows j 0)) (2 ^ j)
    ∙ ap₂ bit_xor (subset_sums_if_remaining_even width patterns start rows (get_or rows j 0) rows_below (rows_below j) (remaining_even_on_rows patterns rows j)) (select_unit rows j)
    ∙ xor_self (get_or rows j 0)

-- So do the values that a linear map makes of them
pub equation_meets_made : {f : ℕ → ℕ} → Linear f → (rows : List ℕ) (equation : ℕ) → select rows equation ≡ 0 → select (map f rows) equation ≡ 0
equation_meets_made {f} linear rows equation zero_sum = sym (select_map_linear linear rows equation) ∙ ap f zero_sum ∙ linear.of_zero

-- ------------------------------------------------------------------
-- Enough

-- Values that meet every row's equation are what a linear map makes of the rows
pub made_if_equations_met : (patterns rows values : List ℕ) → ((j : ℕ) → select values (equation_of patterns rows j) ≡ 0) → MadeFrom rows values
made_if_equations_met patterns rows values met =
    record {
      map_is = λ v. select values (back_substitute found rows v);
      linear = linear_compose (select_linear values) (back_substitute_linear found rows);
      makes =
          λ j.
          equal_if_xor_zero (select values (back_substitute found rows (get_or rows j 0))) (get_or values j 0)
          (ap (bit_xor (select values (back_substitute found rows (get_or rows j 0)))) (sym (select_unit values j))
          ∙ sym ((select_linear values).of_sum (back_substitute found rows (get_or rows j 0)) (2 ^ j))
          ∙ met j);
      keeps_width = λ width below v. select_below width values (back_substitute found rows v) below;
    }
  where
    found : List ℕ
    found = pivots patterns rows

-- Every linear map is an encoding: of the data that it makes of the units
pub linear_is_encoding : (width : ℕ) {f : ℕ → ℕ} → Linear f → (row : ℕ) → row < 2 ^ width → select (map f (units width)) row ≡ f row
linear_is_encoding width {f} linear row h = sym (select_map_linear linear (units width) row) ∙ ap f (select_units width row h)

-- ------------------------------------------------------------------
-- Rows with a pivot

-- Of what all patterns overlap evenly the pivots take nothing
subset_empty_if_even : (patterns rows : List ℕ) (v : ℕ) → EvenOn patterns v → back_substitute (pivots patterns rows) rows v ≡ 0
unfolding pivots back_substitute
subset_empty_if_even patterns [] v even = refl
subset_empty_if_even patterns (row ∷ rows) v even =
    let pivot = pivot_for patterns row in
    let later = subset_empty_if_even (reduce_patterns patterns row) rows v (reduced_stay_even patterns row v even) in
    let bit =
    ap (λ (subset : ℕ). overlap pivot (bit_xor v (select rows subset))) later
    ∙ ap (λ (sum : ℕ). overlap pivot (bit_xor v sum)) (select_linear rows).of_zero
    ∙ ap (overlap pivot) (xor_zero_r v)
    ∙ pivot_even_if_all_even patterns row v even in
    omega (arith, later, bit)

-- Of a row with a pivot they take the row itself
subset_of_own_row : (patterns rows : List ℕ) (j : ℕ) → (get_or (pivots patterns rows) j 0 ≡ 0 → ⊥) → back_substitute (pivots patterns rows) rows (get_or rows j 0) ≡ 2 ^ j
unfolding pivots back_substitute
subset_of_own_row patterns [] j some = absurd (some refl)
subset_of_own_row patterns (row ∷ rows) zero some =
    let pivot = pivot_for patterns row in
    let later = subset_empty_if_even (reduce_patterns patterns row) rows row (reduced_even_on_row patterns row) in
    let bit =
    ap (λ (subset : ℕ). overlap pivot (bit_xor row (select rows subset))) later
    ∙ ap (λ (sum : ℕ). overlap pivot (bit_xor row sum)) (select_linear rows).of_zero
    ∙ ap (overlap pivot) (xor_zero_r row)
    ∙ odd_if_pivot patterns row some in
    omega (arith, later, bit)
subset_of_own_row patterns (row ∷ rows) (suc j) some =
    let pivot = pivot_for patterns row in
    let v = get_or rows j 0 in
    let later = subset_of_own_row (reduce_patterns patterns row) rows j some in
    let bit =
    ap (λ (subset : ℕ). overlap pivot (bit_xor v (select rows subset))) later
    ∙ ap (λ (sum : ℕ). overlap pivot (bit_xor v sum)) (select_unit rows j)
    ∙ ap (overlap pivot) (xor_self v)
    ∙ overlap_zero_right pivot in
    omega (arith, later, bit, pow-suc 2 j)

-- So its equation is empty
pub equation_empty_if_pivot : (patterns rows : List ℕ) (j : ℕ) → (get_or (pivots patterns rows) j 0 ≡ 0 → ⊥) → equation_of patterns rows j ≡ 0
equation_empty_if_pivot patterns rows j some = ap (λ (subset : ℕ). bit_xor subset (2 ^ j)) (subset_of_own_row patterns rows j some) ∙ xor_self (2 ^ j)
