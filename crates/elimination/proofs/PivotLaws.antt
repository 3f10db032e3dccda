-- Laws of one pass over the patterns: the search for a row's pivot, and its addition to the patterns that overlap the row oddly. Assumes nothing.
use mathlib.Core.Path.{◌≡◌, refl, sym, ap, ap₂, ◌∙◌}
use mathlib.Core.Bool.{Bool, true, false, cond}
use mathlib.Core.List.{List, [], ◌∷◌}
use Prim.Native.Nat.{ℕ, zero, suc, ◌+◌, ◌≤◌, ◌<◌}
use native.Mathlib.Numerals.{add-one}
use native.Mathlib.Omega.{arith}
use borrow.Author.Tests.{eqb-true}
use lib.Bits.{bit_xor}
use lib.Dec.{eqb, eqb-suc-zero}
use lib.ListN.{length, get_or, set, drop, length-map, drop_of_length-le}
use lib.Seq.{ext_get_or}
use Rattle.bits.specs.BitSets.{overlap}
use Rattle.gf2.specs.InnerElimination.{pivot_for, reduce_pattern, reduce_patterns}
use Rattle.gf2.proofs.EliminationLaws.{get_or_reduce_patterns}
use Rattle.bits.proofs.OverlapLaws.{even_if_not_odd, overlap_zero_left, overlap_zero_right}
use Rattle.bits.proofs.StoreLaws.{overwritten, overwritten_next, overwritten_more, overwritten_kept, overwritten_all}
use Rattle.elimination.specs.InnerPatterns.{first_nonempty}
use Rattle.elimination.proofs.PatternLaws.{reduce_pattern_even, reduce_pattern_odd}

-- ------------------------------------------------------------------
-- The search

-- A pattern that overlaps the row evenly is passed
pub pivot_for_passes : (patterns : List ℕ) (row i : ℕ) → eqb (overlap (get_or patterns i 0) row) 1 ≡ false
    → pivot_for (drop i patterns) row ≡ pivot_for (drop (i + 1) patterns) row
unfolding pivot_for
pivot_for_passes patterns row i even = passes patterns i even ∙ ap (λ (n : ℕ). pivot_for (drop n patterns) row) (sym (add-one i))
  where
    passes : (es : List ℕ) (j : ℕ) → eqb (overlap (get_or es j 0) row) 1 ≡ false → pivot_for (drop j es) row ≡ pivot_for (drop (suc j) es) row
    passes [] zero h = refl
    passes [] (suc j) h = refl
    passes (e ∷ es) zero h = ap (λ (c : Bool). cond c e (pivot_for es row)) h
    passes (e ∷ es) (suc j) h = passes es j h

-- A pattern that overlaps the row oddly is found
pub pivot_for_finds : (patterns : List ℕ) (row i : ℕ) → eqb (overlap (get_or patterns i 0) row) 1 ≡ true
    → pivot_for (drop i patterns) row ≡ get_or patterns i 0
unfolding pivot_for
pivot_for_finds [] row zero odd = refl
pivot_for_finds [] row (suc i) odd = refl
pivot_for_finds (e ∷ es) row zero odd = ap (λ (c : Bool). cond c e (pivot_for es row)) odd
pivot_for_finds (e ∷ es) row (suc i) odd = pivot_for_finds es row i odd

-- Behind the last pattern there is no pivot
pub pivot_for_end : (patterns : List ℕ) (row i : ℕ) → length patterns ≤ i → pivot_for (drop i patterns) row ≡ 0
unfolding pivot_for
pivot_for_end patterns row i all = ap (λ (l : List ℕ). pivot_for l row) (drop_of_length-le patterns {i = i} all)

-- ------------------------------------------------------------------
-- The first set that is not empty

-- A first set that is not empty is the answer
first_nonempty_first : (first second : ℕ) → first_nonempty (suc first) second ≡ suc first
first_nonempty_first first second = ap (λ (c : Bool). cond c second (suc first)) (eqb-suc-zero first)

-- With an empty second set the first is the answer
first_nonempty_empty : (first : ℕ) → first_nonempty first 0 ≡ first
first_nonempty_empty zero = refl
first_nonempty_empty (suc first) = first_nonempty_first first 0

-- A set that overlaps a row oddly is not empty, so the answer is among the sets up to it
first_nonempty_odd : (first second row other : ℕ) → overlap second row ≡ 1
    → first_nonempty (first_nonempty first second) other ≡ first_nonempty first second
first_nonempty_odd (suc first) second row other odd =
    ap (λ (set : ℕ). first_nonempty set other) (first_nonempty_first first second)
    ∙ first_nonempty_first first other
    ∙ sym (first_nonempty_first first second)
first_nonempty_odd zero (suc second) row other odd = first_nonempty_first second other
first_nonempty_odd zero zero row other odd = absurd (omega (arith, overlap_zero_left row))

-- ------------------------------------------------------------------
-- The pass

-- A row taken in leaves as many patterns
pub length_reduce_patterns : (patterns : List ℕ) (row : ℕ) → length patterns ≡ length (reduce_patterns patterns row)
unfolding reduce_patterns
length_reduce_patterns patterns row = sym (length-map patterns (reduce_pattern (pivot_for patterns row) row))

-- An empty row changes no pattern
pub reduce_patterns_of_empty : (patterns : List ℕ) → reduce_patterns patterns 0 ≡ patterns
reduce_patterns_of_empty patterns =
    ext_get_or 0 (reduce_patterns patterns 0) patterns (sym (length_reduce_patterns patterns 0))
    (λ i h. get_or_reduce_patterns patterns 0 i ∙ reduce_pattern_even (pivot_for patterns 0) 0 (get_or patterns i 0) (overlap_zero_right (get_or patterns i 0)))

-- The pass has come to pattern i. The row's pivot is the one found or, where none is, to be found from i on; the patterns before i are reduced
pub record PassedTo (patterns : List ℕ) (row i pivot : ℕ) (reduced : List ℕ) : Type 0 where
  pub pivot_ahead : first_nonempty pivot (pivot_for (drop i patterns) row) ≡ pivot_for patterns row
  pub stored : reduced ≡ overwritten patterns (reduce_patterns patterns row) i

-- At first no pivot is found and no pattern is reduced
pub passed_none : (patterns : List ℕ) (row : ℕ) → PassedTo patterns row 0 0 patterns
passed_none patterns row = record { pivot_ahead = refl; stored = refl }

module _ {patterns : List ℕ} {row i pivot : ℕ} {reduced : List ℕ} (within : i < length patterns) (passed : PassedTo patterns row i pivot reduced) where
  within_reduced : i < length (reduce_patterns patterns row)
  within_reduced = omega (arith, length_reduce_patterns patterns row)

  -- The reduced patterns take the places of the others
  room : length (reduce_patterns patterns row) ≤ length patterns
  room = omega (arith, length_reduce_patterns patterns row)

  -- The next pattern is not reduced yet
  next_pattern : get_or reduced i 0 ≡ get_or patterns i 0
  next_pattern =
      ap (λ (l : List ℕ). get_or l i 0) passed.stored
      ∙ overwritten_next patterns (reduce_patterns patterns row) room i within_reduced

  next_overlap : eqb (overlap (get_or patterns i 0) row) 1 ≡ eqb (overlap (get_or reduced i 0) row) 1
  next_overlap = ap (λ (e : ℕ). eqb (overlap e row) 1) (sym next_pattern)

  -- An odd pattern is the pivot unless one was found before, and the pivot is added to it
  pub passed_odd : eqb (overlap (get_or reduced i 0) row) 1 ≡ true
      → {taken : ℕ} → taken ≡ first_nonempty pivot (get_or reduced i 0) → {sum : ℕ} → sum ≡ bit_xor (get_or reduced i 0) taken
      → {pivot' : ℕ} → pivot' ≡ taken → {reduced' : List ℕ} → reduced' ≡ set reduced i sum → PassedTo patterns row (i + 1) pivot' reduced'
  passed_odd odd {taken} is_taken {sum} is_sum is_pivot' is_reduced' =
      record {
        pivot_ahead =
            ap (λ (p : ℕ). first_nonempty p (pivot_for (drop (i + 1) patterns) row)) (is_pivot' ∙ is_taken)
            ∙ first_nonempty_odd pivot (get_or reduced i 0) row (pivot_for (drop (i + 1) patterns) row) is_odd
            ∙ sym is_taken
            ∙ taken_is_pivot;
        stored =
            is_reduced'
            ∙ overwritten_more patterns (reduce_patterns patterns row) room reduced i sum within_reduced passed.stored
            (is_sum
            ∙ ap (bit_xor (get_or reduced i 0)) taken_is_pivot
            ∙ sym (reduce_pattern_odd (pivot_for patterns row) row (get_or reduced i 0) is_odd)
            ∙ ap (reduce_pattern (pivot_for patterns row) row) next_pattern
            ∙ sym (get_or_reduce_patterns patterns row i));
      }
    where
      is_odd : overlap (get_or reduced i 0) row ≡ 1
      is_odd = eqb-true (overlap (get_or reduced i 0) row) 1 odd

      taken_is_pivot : taken ≡ pivot_for patterns row
      taken_is_pivot =
          is_taken ∙ ap (first_nonempty pivot) (next_pattern ∙ sym (pivot_for_finds patterns row i (next_overlap ∙ odd))) ∙ passed.pivot_ahead

  -- An even pattern is neither the pivot nor changed
  pub passed_even : eqb (overlap (get_or reduced i 0) row) 1 ≡ false
      → {pivot' : ℕ} → pivot' ≡ pivot → {reduced' : List ℕ} → reduced' ≡ reduced → PassedTo patterns row (i + 1) pivot' reduced'
  passed_even even is_pivot' is_reduced' =
      record {
        pivot_ahead = ap₂ first_nonempty is_pivot' (sym (pivot_for_passes patterns row i (next_overlap ∙ even))) ∙ passed.pivot_ahead;
        stored =
            is_reduced'
            ∙ overwritten_kept patterns (reduce_patterns patterns row) room reduced i within_reduced passed.stored
            (get_or_reduce_patterns patterns row i
            ∙ reduce_pattern_even (pivot_for patterns row) row (get_or patterns i 0) (even_if_not_odd (get_or patterns i 0) row (next_overlap ∙ even)));
      }

-- Behind the last pattern the pivot is found and all patterns are reduced
pub passed_all : {patterns : List ℕ} {row i pivot : ℕ} {reduced : List ℕ} → length patterns ≤ i → PassedTo patterns row i pivot reduced
    → (pivot ≡ pivot_for patterns row) × (reduced ≡ reduce_patterns patterns row)
passed_all {patterns} {row} {i} {pivot} {reduced} all passed = (
  sym (first_nonempty_empty pivot) ∙ ap (first_nonempty pivot) (sym (pivot_for_end patterns row i all)) ∙ passed.pivot_ahead,
  overwritten_all patterns (reduce_patterns patterns row) reduced i (length_reduce_patterns patterns row) passed.stored
      (omega (arith, length_reduce_patterns patterns row)),
)
