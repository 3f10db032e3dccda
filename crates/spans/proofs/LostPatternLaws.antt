-- The patterns that are lost with the wanted rows: whatever is zero on the surviving rows looks on the wanted ones like the sum of exactly one subset of
-- them. Assumes nothing.
use mathlib.Core.Path.{◌≡◌, refl, sym, ap, ap₂, ◌∙◌, subst}
use mathlib.Core.List.{List, [], ◌∷◌}
use Prim.Native.Nat.{ℕ, zero, suc, ◌+◌, ◌*◌, ◌/◌, ◌%◌, ◌^◌, ◌≤◌, ◌<◌}
use native.Mathlib.Nat.{pow-suc, div-add-mod', not-suc-le-zero}
use native.Mathlib.Omega.{arith}
use lib.Bits.{bit_xor, xor_comm, xor_zero_r}
use lib.ListN.{length, get_or}
use Rattle.bits.specs.BitSets.{overlap, scale}
use Rattle.bits.proofs.XorLaws.{xor_cancel}
use Rattle.bits.proofs.OverlapLaws.{overlap_below_two, overlap_zero_left, overlap_zero_right, overlap_xor_left, overlap_scale_left}
use Rattle.gf2.specs.Selection.{select, Below}
use Rattle.gf2.specs.InnerElimination.{pivot_for, reduce_pattern, reduce_patterns, remaining, pivots, nonempty, EvenOn, StartsWithUnits, SumOfSubset}
use Rattle.gf2.proofs.EliminationLaws.{get_or_reduce_patterns, pivot_even_if_all_even, even_if_no_pivot, odd_if_pivot, remaining_even_on_rows, pivot_below, reduce_patterns_below}
use Rattle.spans.specs.InnerSpans.{lost_patterns, AlikeOn, OneSubset}
use Rattle.spans.proofs.SpanLaws.{select_even, even_if_sum, sum_reduced, reduce_pattern_keeps_even, reduced_even_on_row, reduced_stay_even, sum_of_remaining, sum_of_units}

-- ------------------------------------------------------------------
-- What the patterns overlap evenly

-- What all patterns overlap evenly, every lost one does
pub lost_even : (patterns rows : List ℕ) (v : ℕ) → EvenOn patterns v → EvenOn (lost_patterns patterns rows) v
unfolding pivots nonempty
lost_even patterns [] v even = no_more
  where
    no_more : EvenOn (nonempty []) v
    no_more i = overlap_zero_left v
lost_even patterns (row ∷ rows) v even =
    with_pivot (pivot_for patterns row) (pivot_even_if_all_even patterns row v even) (pivots (reduce_patterns patterns row) rows) (lost_even (reduce_patterns patterns row) rows v (reduced_stay_even patterns row v even))
  where
    with_pivot : (pivot : ℕ) → overlap pivot v ≡ 0 → (others : List ℕ) → EvenOn (nonempty others) v → EvenOn (nonempty (pivot ∷ others)) v
    with_pivot zero here others later i = later i
    with_pivot (suc pivot) here others later zero = here
    with_pivot (suc pivot) here others later (suc i) = later i

-- ------------------------------------------------------------------
-- One row

-- A pattern first in a list: the low bit chooses it
select_first : (pattern : ℕ) (patterns : List ℕ) (rest bit : ℕ) → bit < 2
    → select (pattern ∷ patterns) (rest * 2 + bit) ≡ bit_xor (scale bit pattern) (select patterns rest)
unfolding select
select_first pattern patterns rest bit h = ap₂ (λ (y z : ℕ). bit_xor (scale y pattern) (select patterns z)) (omega arith) (omega arith)

-- A row that all patterns and x overlap evenly needs none
one_subset_even : (rows patterns : List ℕ) (row x : ℕ) → overlap x row ≡ 0 → EvenOn patterns row → OneSubset rows patterns x → OneSubset (row ∷ rows) patterns x
one_subset_even rows patterns row x x_even even one =
    record {
      subset = one.subset;
      below = one.below;
      alike = elim [ zero ↦ x_even ∙ sym (select_even patterns one.subset row even) | suc j ↦ one.alike j ];
      only = λ other below alike. one.only other below (λ j. alike (suc j));
    }

-- A term moved from one side to the other
move_in : (pivot bit x y v : ℕ) → overlap (bit_xor x (scale bit pivot)) v ≡ overlap y v → overlap x v ≡ overlap (bit_xor (scale bit pivot) y) v
move_in pivot bit x y v h =
    ap (λ (z : ℕ). overlap z v) (sym (xor_cancel (scale bit pivot) x) ∙ ap (bit_xor (scale bit pivot)) (xor_comm (scale bit pivot) x))
    ∙ overlap_xor_left (scale bit pivot) (bit_xor x (scale bit pivot)) v
    ∙ ap (bit_xor (overlap (scale bit pivot) v)) h
    ∙ sym (overlap_xor_left (scale bit pivot) y v)

move_out : (pivot bit x y v : ℕ) → overlap x v ≡ overlap (bit_xor (scale bit pivot) y) v → overlap (bit_xor x (scale bit pivot)) v ≡ overlap y v
move_out pivot bit x y v h =
    overlap_xor_left x (scale bit pivot) v
    ∙ ap (λ (z : ℕ). bit_xor z (overlap (scale bit pivot) v)) (h ∙ overlap_xor_left (scale bit pivot) y v)
    ∙ xor_comm (bit_xor (overlap (scale bit pivot) v) (overlap y v)) (overlap (scale bit pivot) v)
    ∙ xor_cancel (overlap (scale bit pivot) v) (overlap y v)

-- A sum overlaps the row oddly exactly if it has the one pattern that does
overlap_first : (patterns : List ℕ) (pivot row bit rest : ℕ) → bit < 2 → overlap pivot row ≡ 1 → EvenOn patterns row
    → overlap (bit_xor (scale bit pivot) (select patterns rest)) row ≡ bit
unfolding scale
overlap_first patterns pivot row bit rest small odd even =
    overlap_xor_left (scale bit pivot) (select patterns rest) row
    ∙ ap₂ bit_xor (overlap_scale_left bit pivot row ∙ ap (scale bit) odd) (select_even patterns rest row even)
    ∙ xor_zero_r (scale bit 1)
    ∙ is_bit bit small
  where
    is_bit : (bit : ℕ) → bit < 2 → scale bit 1 ≡ bit
    is_bit zero h = refl
    is_bit (suc zero) h = refl
    is_bit (suc (suc bit)) h = absurd (omega arith)

-- A row with a pivot, which the other patterns overlap evenly
one_subset_odd : (rows patterns : List ℕ) (pivot row x : ℕ) → overlap pivot row ≡ 1 → EvenOn patterns row
    → OneSubset rows patterns (reduce_pattern pivot row x) → OneSubset (row ∷ rows) (pivot ∷ patterns) x
one_subset_odd rows patterns pivot row x odd even one =
    record {
      subset = one.subset * 2 + overlap x row;
      below =
          subst (λ (y : ℕ). one.subset * 2 + overlap x row < y) (sym (pow-suc 2 (length patterns))) (omega (arith, one.below, overlap_below_two x row));
      alike =
          λ j. alike j ∙ ap (λ (y : ℕ). overlap y (get_or (row ∷ rows) j 0)) (sym (select_first pivot patterns one.subset (overlap x row) (overlap_below_two x row)));
      only = only;
    }
  where
    alike : (j : ℕ) → overlap x (get_or (row ∷ rows) j 0) ≡ overlap (bit_xor (scale (overlap x row) pivot) (select patterns one.subset)) (get_or (row ∷ rows) j 0)
    alike zero = sym (overlap_first patterns pivot row (overlap x row) one.subset (overlap_below_two x row) odd even)
    alike (suc j) = move_in pivot (overlap x row) x (select patterns one.subset) (get_or rows j 0) (one.alike j)

    half_below : (other : ℕ) → other < 2 ^ length (pivot ∷ patterns) → other / 2 < 2 ^ length patterns
    half_below other h = omega (arith, subst (λ (y : ℕ). other < y) (pow-suc 2 (length patterns)) h)

    only : (other : ℕ) → other < 2 ^ length (pivot ∷ patterns) → AlikeOn (row ∷ rows) x (select (pivot ∷ patterns) other) → other ≡ one.subset * 2 + overlap x row
    only other h same =
        let taken_apart : select (pivot ∷ patterns) other ≡ bit_xor (scale (other % 2) pivot) (select patterns (other / 2)) =
        ap (select (pivot ∷ patterns)) (sym (div-add-mod' other 2)) ∙ select_first pivot patterns (other / 2) (other % 2) (omega arith) in
        let low_bit : overlap x row ≡ other % 2 =
        same 0 ∙ ap (λ (y : ℕ). overlap y row) taken_apart ∙ overlap_first patterns pivot row (other % 2) (other / 2) (omega arith) odd even in
        let half : other / 2 ≡ one.subset =
        one.only (other / 2) (half_below other h)
        (λ j. move_out pivot (overlap x row) x (select patterns (other / 2)) (get_or rows j 0)
        (same (suc j) ∙ ap (λ (y : ℕ). overlap y (get_or rows j 0)) (taken_apart ∙ ap (λ (bit : ℕ). bit_xor (scale bit pivot) (select patterns (other / 2))) (sym low_bit)))) in
        omega (arith, low_bit, half)

-- ------------------------------------------------------------------
-- All rows

one_subset_row : (patterns : List ℕ) (row : ℕ) (rows : List ℕ) (x : ℕ) → SumOfSubset patterns x
    → OneSubset rows (lost_patterns (reduce_patterns patterns row) rows) (reduce_pattern (pivot_for patterns row) row x)
    → OneSubset (row ∷ rows) (lost_patterns patterns (row ∷ rows)) x
unfolding pivots nonempty
one_subset_row patterns row rows x sum later = by_pivot (pivot_for patterns row) refl
  where
    even : EvenOn (lost_patterns (reduce_patterns patterns row) rows) row
    even = lost_even (reduce_patterns patterns row) rows row (reduced_even_on_row patterns row)

    by_pivot : (pivot : ℕ) → pivot_for patterns row ≡ pivot → OneSubset (row ∷ rows) (nonempty (pivot ∷ pivots (reduce_patterns patterns row) rows)) x
    by_pivot zero none =
        let x_even = even_if_sum patterns row x (even_if_no_pivot patterns row none) sum in
        one_subset_even rows (lost_patterns (reduce_patterns patterns row) rows) row x x_even even
        (subst (OneSubset rows (lost_patterns (reduce_patterns patterns row) rows)) (reduce_pattern_keeps_even (pivot_for patterns row) row x x_even) later)
    by_pivot (suc pivot) is =
        let odd = odd_if_pivot patterns row (λ none. absurd (omega (arith, is, none))) in
        one_subset_odd rows (lost_patterns (reduce_patterns patterns row) rows) (suc pivot) row x
        (ap (λ (p : ℕ). overlap p row) (sym is) ∙ odd) even
        (subst (λ (p : ℕ). OneSubset rows (lost_patterns (reduce_patterns patterns row) rows) (reduce_pattern p row x)) is later)

-- A sum of the patterns looks on the rows like the sum of exactly one subset of the lost ones
pub one_subset : (patterns rows : List ℕ) (x : ℕ) → SumOfSubset patterns x → OneSubset rows (lost_patterns patterns rows) x
unfolding pivots nonempty
one_subset patterns [] x sum =
    record { subset = 0; below = omega arith; alike = λ j. overlap_zero_right x ∙ sym (overlap_zero_right (select [] 0)); only = λ other h same. omega arith }
one_subset patterns (row ∷ rows) x sum =
    one_subset_row patterns row rows x sum (one_subset (reduce_patterns patterns row) rows (reduce_pattern (pivot_for patterns row) row x) (sum_reduced patterns row x sum))

-- ------------------------------------------------------------------
-- Lost patterns below a width

pub lost_below : (width : ℕ) (patterns rows : List ℕ) → Below width patterns → Below width (lost_patterns patterns rows)
unfolding pivots nonempty
lost_below width patterns [] h = no_more
  where
    no_more : Below width (nonempty [])
    no_more i = omega (arith, h 0)
lost_below width patterns (row ∷ rows) h =
    with_pivot (pivot_for patterns row) (pivot_below width patterns row h) (pivots (reduce_patterns patterns row) rows) (lost_below width (reduce_patterns patterns row) rows (reduce_patterns_below width patterns row h))
  where
    with_pivot : (pivot : ℕ) → pivot < 2 ^ width → (others : List ℕ) → Below width (nonempty others) → Below width (nonempty (pivot ∷ others))
    with_pivot zero here others later i = later i
    with_pivot (suc pivot) here others later zero = here
    with_pivot (suc pivot) here others later (suc i) = later i

-- ------------------------------------------------------------------
-- The first lost pattern, and none at all

-- A pattern shows on one of the rows
pub record ShowsOn (rows : List ℕ) (pattern : ℕ) : Type 0 where
  pub place : ℕ
  pub odd_there : overlap pattern (get_or rows place 0) ≡ 1

-- The first lost pattern overlaps some row oddly
pub first_shows : (patterns rows : List ℕ) → 1 ≤ length (lost_patterns patterns rows) → ShowsOn rows (get_or (lost_patterns patterns rows) 0 0)
unfolding pivots nonempty
first_shows patterns [] = no_more
  where
    no_more : 1 ≤ length (nonempty []) → ShowsOn [] (get_or (nonempty []) 0 0)
    no_more h = absurd (not-suc-le-zero h)
first_shows patterns (row ∷ rows) = by_pivot (first_shows (reduce_patterns patterns row) rows) (pivot_for patterns row) refl
  where
    later : {pattern : ℕ} → ShowsOn rows pattern → ShowsOn (row ∷ rows) pattern
    later shows = record { place = suc shows.place; odd_there = shows.odd_there }

    by_pivot : (1 ≤ length (lost_patterns (reduce_patterns patterns row) rows) → ShowsOn rows (get_or (lost_patterns (reduce_patterns patterns row) rows) 0 0))
        → (pivot : ℕ) → pivot_for patterns row ≡ pivot → 1 ≤ length (nonempty (pivot ∷ pivots (reduce_patterns patterns row) rows))
        → ShowsOn (row ∷ rows) (get_or (nonempty (pivot ∷ pivots (reduce_patterns patterns row) rows)) 0 0)
    by_pivot others zero none some = later (others some)
    by_pivot others (suc pivot) is some =
        record { place = 0; odd_there = ap (λ (p : ℕ). overlap p row) (sym is) ∙ odd_if_pivot patterns row (λ none. absurd (omega (arith, is, none))) }

-- Where none is lost, all patterns overlap each row evenly
pub even_if_none_lost : (patterns rows : List ℕ) → length (lost_patterns patterns rows) ≡ 0 → (j : ℕ) → EvenOn patterns (get_or rows j 0)
unfolding pivots nonempty
even_if_none_lost patterns [] none j = λ i. overlap_zero_right (get_or patterns i 0)
even_if_none_lost patterns (row ∷ rows) none j = by_pivot (even_if_none_lost (reduce_patterns patterns row) rows) (pivot_for patterns row) refl none j
  where
    by_pivot : (length (lost_patterns (reduce_patterns patterns row) rows) ≡ 0 → (j : ℕ) → EvenOn (reduce_patterns patterns row) (get_or rows j 0))
        → (pivot : ℕ) → pivot_for patterns row ≡ pivot → length (nonempty (pivot ∷ pivots (reduce_patterns patterns row) rows)) ≡ 0
        → (j : ℕ) → EvenOn patterns (get_or (row ∷ rows) j 0)
    by_pivot others zero no_pivot none zero = even_if_no_pivot patterns row no_pivot
    by_pivot others zero no_pivot none (suc j) =
        λ i.
        ap (λ (y : ℕ). overlap y (get_or rows j 0))
        (sym (get_or_reduce_patterns patterns row i ∙ reduce_pattern_keeps_even (pivot_for patterns row) row (get_or patterns i 0) (even_if_no_pivot patterns row no_pivot i)))
        ∙ others none j i
    by_pivot others (suc pivot) is none j = absurd (omega arith)

-- ------------------------------------------------------------------
-- The law, for the rows that survive and those that are wanted

-- What is zero on every surviving row looks on the wanted ones like the sum of exactly one subset of the lost patterns
pub one_subset_of_lost : (width : ℕ) (patterns : List ℕ) → StartsWithUnits width patterns → (surviving wanted : List ℕ) (x : ℕ) → x < 2 ^ width
    → ((j : ℕ) → overlap x (get_or surviving j 0) ≡ 0) → OneSubset wanted (lost_patterns (remaining patterns surviving) wanted) x
one_subset_of_lost width patterns start surviving wanted x h even =
    one_subset (remaining patterns surviving) wanted x (sum_of_remaining patterns surviving x (sum_of_units width patterns start x h) even)

-- Each lost pattern is zero on every surviving row
pub lost_even_on_surviving : (patterns surviving wanted : List ℕ) (i j : ℕ) → overlap (get_or (lost_patterns (remaining patterns surviving) wanted) i 0) (get_or surviving j 0) ≡ 0
lost_even_on_surviving patterns surviving wanted i j = lost_even (remaining patterns surviving) wanted (get_or surviving j 0) (remaining_even_on_rows patterns surviving j) i
