-- Sums of subsets: of units, of patterns that elimination reduces, and of what remains of them. Assumes nothing.
use mathlib.Core.Path.{◌≡◌, refl, sym, ap, ap₂, ◌∙◌, subst}
use mathlib.Core.List.{List, [], ◌∷◌, map}
use Prim.Native.Nat.{ℕ, zero, suc, ◌+◌, ◌*◌, ◌/◌, ◌%◌, ◌^◌, ◌<◌}
use native.Mathlib.Nat.{zero-mul, mul-one, pow-suc, div-add-mod'}
use native.Mathlib.Omega.{arith}
use lib.Bits.{bit_xor, xor_comm, xor_self, xor_zero_r, xor_shifted}
use lib.ListN.{get_or}
use lib.Pow.{pow-lt}
use Rattle.bits.specs.BitSets.{overlap, scale}
use Rattle.bits.proofs.XorLaws.{low_bit_cases, xor_interchange, scale_zero, scale_below}
use Rattle.bits.proofs.OverlapLaws.{overlap_cases, overlap_zero_left, overlap_xor_left, overlap_scale_left, unit_half, unit_low_bit}
use Rattle.gf2.specs.Selection.{select, Linear}
use Rattle.gf2.specs.InnerElimination.{pivot_for, reduce_pattern, reduce_patterns, remaining, EvenOn, units_from, units, StartsWithUnits, SumOfSubset}
use Rattle.gf2.proofs.SelectionLaws.{select_linear, get_or_map_linear}
use Rattle.gf2.proofs.EliminationLaws.{get_or_reduce_patterns, pivot_even_if_all_even, remaining_even_on_rows}

-- ------------------------------------------------------------------
-- Selections

-- A linear map keeps scaling by a bit
linear_scale : {f : ℕ → ℕ} → Linear f → (bit v : ℕ) → f (scale bit v) ≡ scale bit (f v)
unfolding scale
linear_scale linear zero v = linear.of_zero
linear_scale linear (suc bit) v = refl

-- What a linear map makes of a selection is the selection of what it makes
pub select_map_linear : {f : ℕ → ℕ} → Linear f → (xs : List ℕ) (chosen : ℕ) → f (select xs chosen) ≡ select (map f xs) chosen
unfolding select
select_map_linear linear [] chosen = linear.of_zero
select_map_linear linear (x ∷ xs) chosen =
    linear.of_sum (scale (chosen % 2) x) (select xs (chosen / 2))
    ∙ ap₂ bit_xor (linear_scale linear (chosen % 2) x) (select_map_linear linear xs (chosen / 2))

-- A selection of zeros is 0
pub select_zeros : (xs : List ℕ) (chosen : ℕ) → ((i : ℕ) → get_or xs i 0 ≡ 0) → select xs chosen ≡ 0
unfolding select
select_zeros [] chosen zeros = refl
select_zeros (x ∷ xs) chosen zeros =
    ap₂ bit_xor (ap (scale (chosen % 2)) (zeros 0) ∙ scale_zero (chosen % 2)) (select_zeros xs (chosen / 2) (λ i. zeros (suc i)))

-- Lists with equal entries have equal selections, whatever zeros are behind them
pub select_same : (xs ys : List ℕ) (chosen : ℕ) → ((i : ℕ) → get_or xs i 0 ≡ get_or ys i 0) → select xs chosen ≡ select ys chosen
unfolding select
select_same [] ys chosen same = sym (select_zeros ys chosen (λ i. sym (same i)))
select_same (x ∷ xs) [] chosen same = select_zeros (x ∷ xs) chosen same
select_same (x ∷ xs) (y ∷ ys) chosen same =
    ap₂ (λ (u v : ℕ). bit_xor (scale (chosen % 2) u) v) (same 0) (select_same xs ys (chosen / 2) (λ i. same (suc i)))

-- A unit selects one element
pub select_unit : (xs : List ℕ) (j : ℕ) → select xs (2 ^ j) ≡ get_or xs j 0
unfolding select scale
select_unit [] j = refl
select_unit (x ∷ xs) zero = ap (bit_xor x) (select_linear xs).of_zero ∙ xor_zero_r x
select_unit (x ∷ xs) (suc j) = ap₂ (λ (bit rest : ℕ). bit_xor (scale bit x) (select xs rest)) (unit_low_bit j) (unit_half j) ∙ select_unit xs j

-- A low bit scales as it multiplies
scale_times : (x v : ℕ) → scale (x % 2) v ≡ x % 2 * v
unfolding scale
scale_times x v = low_bit_cases (λ bit. scale bit v ≡ bit * v) (omega arith) (omega arith) x

-- A selection of the units from a first bit on is the number itself, moved up to that bit
select_units_from : (count first x : ℕ) → x < 2 ^ count → select (units_from count first) x ≡ x * 2 ^ first
unfolding select units_from
select_units_from zero first x h =
    let none : x ≡ 0 = omega arith in
    sym (ap (λ (y : ℕ). y * 2 ^ first) none ∙ zero-mul (2 ^ first))
select_units_from (suc count) first x h =
    ap (bit_xor (scale (x % 2) (2 ^ first))) (select_units_from count (suc first) (x / 2) (omega arith))
    ∙ xor_comm (scale (x % 2) (2 ^ first)) (x / 2 * 2 ^ suc first)
    ∙ xor_shifted (x / 2) (suc first) (scale (x % 2) (2 ^ first)) (scale_below (suc first) (x % 2) (2 ^ first) (pow-lt (omega arith)))
    ∙ ap₂ (λ (y z : ℕ). x / 2 * y + z) (pow-suc 2 first) (scale_times x (2 ^ first))
    ∙ omega (arith, ap (λ (y : ℕ). y * 2 ^ first) (div-add-mod' x 2))

-- A selection of the units is the number that selects
pub select_units : (width x : ℕ) → x < 2 ^ width → select (units width) x ≡ x
select_units width x h = select_units_from width 0 x h ∙ mul-one x

-- ------------------------------------------------------------------
-- Sums of patterns

-- The overlap with a row is linear in the pattern
pub overlap_left_linear : (row : ℕ) → Linear (λ (pattern : ℕ). overlap pattern row)
overlap_left_linear row = record { of_zero = overlap_zero_left row; of_sum = λ a b. overlap_xor_left a b row }

-- The overlap of a sum of patterns is the sum of their overlaps
pub overlap_select : (patterns : List ℕ) (subset row : ℕ)
    → overlap (select patterns subset) row ≡ select (map (λ (pattern : ℕ). overlap pattern row) patterns) subset
overlap_select patterns subset row = select_map_linear (overlap_left_linear row) patterns subset

-- A sum of patterns that overlap a row evenly does
pub select_even : (patterns : List ℕ) (subset row : ℕ) → EvenOn patterns row → overlap (select patterns subset) row ≡ 0
select_even patterns subset row even =
    overlap_select patterns subset row
    ∙ select_zeros (map (λ (pattern : ℕ). overlap pattern row) patterns) subset
    (λ i. get_or_map_linear (overlap_left_linear row) patterns i ∙ even i)

-- A sum of patterns that all overlap a row evenly does
pub even_if_sum : (patterns : List ℕ) (row x : ℕ) → EvenOn patterns row → SumOfSubset patterns x → overlap x row ≡ 0
even_if_sum patterns row x even sum = ap (λ (y : ℕ). overlap y row) (sym sum.sums) ∙ select_even patterns sum.subset row even

-- ------------------------------------------------------------------
-- Reduced patterns

-- Reducing a pattern is linear
reduce_pattern_linear : (pivot row : ℕ) → Linear (reduce_pattern pivot row)
unfolding scale
reduce_pattern_linear pivot row =
    record {
      of_zero = ap (λ (bit : ℕ). scale bit pivot) (overlap_zero_left row);
      of_sum =
          λ a b.
          ap (bit_xor (bit_xor a b)) (ap (λ (bit : ℕ). scale bit pivot) (overlap_xor_left a b row) ∙ scaled a b)
          ∙ xor_interchange a b (scale (overlap a row) pivot) (scale (overlap b row) pivot);
    }
  where
    scaled : (a b : ℕ) → scale (bit_xor (overlap a row) (overlap b row)) pivot ≡ bit_xor (scale (overlap a row) pivot) (scale (overlap b row) pivot)
    scaled a b =
        overlap_cases (λ c. scale (bit_xor c (overlap b row)) pivot ≡ bit_xor (scale c pivot) (scale (overlap b row) pivot)) refl
        (overlap_cases (λ d. scale (bit_xor 1 d) pivot ≡ bit_xor pivot (scale d pivot)) (sym (xor_zero_r pivot)) (sym (xor_self pivot)) b row) a row

-- A sum of patterns, reduced, is a sum of the reduced patterns
pub sum_reduced : (patterns : List ℕ) (row x : ℕ) → SumOfSubset patterns x → SumOfSubset (reduce_patterns patterns row) (reduce_pattern (pivot_for patterns row) row x)
unfolding reduce_patterns
sum_reduced patterns row x sum =
    record {
      subset = sum.subset;
      sums =
          sym (select_map_linear (reduce_pattern_linear (pivot_for patterns row) row) patterns sum.subset)
          ∙ ap (reduce_pattern (pivot_for patterns row) row) sum.sums;
    }

-- What overlaps the row evenly is not reduced
pub reduce_pattern_keeps_even : (pivot row x : ℕ) → overlap x row ≡ 0 → reduce_pattern pivot row x ≡ x
unfolding scale
reduce_pattern_keeps_even pivot row x even = ap (λ (bit : ℕ). bit_xor x (scale bit pivot)) even ∙ xor_zero_r x

-- After a row the patterns overlap it evenly
pub reduced_even_on_row : (patterns : List ℕ) (row : ℕ) → EvenOn (reduce_patterns patterns row) row
unfolding remaining
reduced_even_on_row patterns row = remaining_even_on_rows patterns (row ∷ []) 0

-- What all patterns overlap evenly, they do after a row
pub reduced_stay_even : (patterns : List ℕ) (row v : ℕ) → EvenOn patterns v → EvenOn (reduce_patterns patterns row) v
unfolding scale
reduced_stay_even patterns row v even i =
    ap (λ (e : ℕ). overlap e v) (get_or_reduce_patterns patterns row i)
    ∙ overlap_xor_left (get_or patterns i 0) (scale (overlap (get_or patterns i 0) row) (pivot_for patterns row)) v
    ∙ ap₂ bit_xor (even i)
    (overlap_scale_left (overlap (get_or patterns i 0) row) (pivot_for patterns row) v
    ∙ ap (scale (overlap (get_or patterns i 0) row)) (pivot_even_if_all_even patterns row v even)
    ∙ scale_zero (overlap (get_or patterns i 0) row))

-- ------------------------------------------------------------------
-- What remains

-- What overlaps every row evenly and is a sum of patterns is a sum of those that remain
pub sum_of_remaining : (patterns rows : List ℕ) (x : ℕ) → SumOfSubset patterns x → ((j : ℕ) → overlap x (get_or rows j 0) ≡ 0)
    → SumOfSubset (remaining patterns rows) x
unfolding remaining
sum_of_remaining patterns [] x sum even = sum
sum_of_remaining patterns (row ∷ rows) x sum even =
    sum_of_remaining (reduce_patterns patterns row) rows x
    (subst (SumOfSubset (reduce_patterns patterns row)) (reduce_pattern_keeps_even (pivot_for patterns row) row x (even 0)) (sum_reduced patterns row x sum))
    (λ j. even (suc j))

-- Every number of K bits is a sum of the unit patterns
pub sum_of_units : (width : ℕ) (patterns : List ℕ) → StartsWithUnits width patterns → (x : ℕ) → x < 2 ^ width → SumOfSubset patterns x
sum_of_units width patterns start x h =
    record { subset = x; sums = select_same patterns (units width) x start ∙ select_units width x h }
