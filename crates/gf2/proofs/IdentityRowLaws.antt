-- Elimination over rows that begin with the identity rows: after these just the units of the lost ones are left, beside patterns that are 0, and
-- a pattern that is 0 changes nothing. Assumes nothing.
use mathlib.Core.Path.{◌≡◌, refl, sym, ap, ap₂, ◌∙◌, subst}
use mathlib.Core.Bool.{Bool, cond}
use mathlib.Core.List.{List, [], ◌∷◌, ◌++◌, map}
use Prim.Native.Nat.{ℕ, zero, suc, ◌-◌, ◌^◌, ◌≤◌, ◌<◌}
use native.Mathlib.Omega.{arith}
use lib.Bits.{bit_xor, xor_self, xor_zero_r}
use lib.Dec.{eqb}
use lib.ListN.{length, take, drop, replicate, take-append-drop}
use lib.Seq.{append_snoc}
use borrow.Author.Tests.{eqb-true, eq-eqb, ne_eqb}
use Rattle.bits.specs.BitSets.{overlap, scale}
use Rattle.bits.specs.Numerals.{set_width, padded}
use Rattle.bits.proofs.Booleans.{bool_cases}
use Rattle.bits.proofs.OverlapLaws.{overlap_zero_left, overlap_zero_right, even_if_not_odd}
use Rattle.bits.proofs.SetLaws.{has_unit, has_by_overlap}
use Rattle.gf2.specs.InnerElimination.{pivot_for, reduce_pattern, reduce_patterns, remaining, pivots, nonempty, EvenOn, units_from, units}
use Rattle.gf2.specs.InnerSubsetPlans.{survivors}

-- ------------------------------------------------------------------
-- Patterns that are 0

-- A pattern that is 0 is no pivot
pub pivot_for_nonempty : (patterns : List ℕ) (row : ℕ) → pivot_for (nonempty patterns) row ≡ pivot_for patterns row
unfolding nonempty pivot_for
pivot_for_nonempty [] row = refl
pivot_for_nonempty (zero ∷ es) row =
    pivot_for_nonempty es row ∙ sym (ap (λ (c : ℕ). cond (eqb c 1) 0 (pivot_for es row)) (overlap_zero_left row))
pivot_for_nonempty (suc e ∷ es) row = ap (cond (eqb (overlap (suc e) row) 1) (suc e)) (pivot_for_nonempty es row)

-- Patterns that differ in zeros alone do so behind one more
nonempty_cons : (e : ℕ) (es others : List ℕ) → nonempty es ≡ nonempty others → nonempty (e ∷ es) ≡ nonempty (e ∷ others)
unfolding nonempty
nonempty_cons zero es others same = same
nonempty_cons (suc e) es others same = ap (λ (l : List ℕ). suc e ∷ l) same

-- A zero among patterns is left out
nonempty_without_zero : (es others : List ℕ) → nonempty (es ++ 0 ∷ others) ≡ nonempty (es ++ others)
unfolding nonempty
nonempty_without_zero [] others = refl
nonempty_without_zero (e ∷ es) others = nonempty_cons e (es ++ 0 ∷ others) (es ++ others) (nonempty_without_zero es others)

-- So are the zeros behind them
nonempty_padded : (patterns : List ℕ) → nonempty (padded patterns) ≡ nonempty patterns
unfolding padded nonempty
nonempty_padded patterns = zeros_behind patterns (set_width - length patterns)
  where
    zeros_behind : (es : List ℕ) (n : ℕ) → nonempty (es ++ replicate n 0) ≡ nonempty es
    zeros_behind [] zero = refl
    zeros_behind [] (suc n) = zeros_behind [] n
    zeros_behind (e ∷ es) n = nonempty_cons e (es ++ replicate n 0) es (zeros_behind es n)

-- Where 0 stays 0, zeros may be left out before
nonempty_map : (f : ℕ → ℕ) → f 0 ≡ 0 → (es : List ℕ) → nonempty (map f (nonempty es)) ≡ nonempty (map f es)
unfolding nonempty
nonempty_map f keeps_zero [] = refl
nonempty_map f keeps_zero (zero ∷ es) = nonempty_map f keeps_zero es ∙ sym (ap (λ (x : ℕ). nonempty (x ∷ map f es)) keeps_zero)
nonempty_map f keeps_zero (suc e ∷ es) = nonempty_cons (f (suc e)) (map f (nonempty es)) (map f es) (nonempty_map f keeps_zero es)

-- Without the zeros, the patterns after a row are the same but for zeros ..
reduce_patterns_nonempty : (patterns : List ℕ) (row : ℕ) → nonempty (reduce_patterns (nonempty patterns) row) ≡ nonempty (reduce_patterns patterns row)
unfolding reduce_patterns scale
reduce_patterns_nonempty patterns row =
    ap (λ (pivot : ℕ). nonempty (map (reduce_pattern pivot row) (nonempty patterns))) (pivot_for_nonempty patterns row)
    ∙ nonempty_map (reduce_pattern pivot row) (ap (λ (c : ℕ). scale c pivot) (overlap_zero_left row)) patterns
  where
    pivot : ℕ
    pivot = pivot_for patterns row

-- .. and so are those after all rows, of patterns that differ in zeros alone
remaining_alike_but_zeros : (patterns others rows : List ℕ) → nonempty patterns ≡ nonempty others → nonempty (remaining patterns rows) ≡ nonempty (remaining others rows)
unfolding remaining
remaining_alike_but_zeros patterns others [] same = same
remaining_alike_but_zeros patterns others (row ∷ rows) same =
    remaining_alike_but_zeros (reduce_patterns patterns row) (reduce_patterns others row) rows
    (sym (reduce_patterns_nonempty patterns row) ∙ ap (λ (l : List ℕ). nonempty (reduce_patterns l row)) same ∙ reduce_patterns_nonempty others row)

-- ------------------------------------------------------------------
-- A row that is even on all patterns, or on all but one

-- A pattern that overlaps the row evenly stays
reduce_pattern_even : (pivot row pattern : ℕ) → overlap pattern row ≡ 0 → reduce_pattern pivot row pattern ≡ pattern
unfolding scale
reduce_pattern_even pivot row pattern even = ap (λ (c : ℕ). bit_xor pattern (scale c pivot)) even ∙ xor_zero_r pattern

-- So do all, where all do
map_reduce_pattern_even : (pivot row : ℕ) (patterns : List ℕ) → EvenOn patterns row → map (reduce_pattern pivot row) patterns ≡ patterns
map_reduce_pattern_even pivot row [] even = refl
map_reduce_pattern_even pivot row (e ∷ es) even = ap₂ ◌∷◌ (reduce_pattern_even pivot row e (even 0)) (map_reduce_pattern_even pivot row es (λ i. even (suc i)))

-- An empty row leaves the patterns as they are
reduce_patterns_by_zero : (patterns : List ℕ) → reduce_patterns patterns 0 ≡ patterns
unfolding reduce_patterns
reduce_patterns_by_zero patterns = map_reduce_pattern_even (pivot_for patterns 0) 0 patterns (λ i. overlap_zero_right _)

module _ (e row : ℕ) (odd : overlap e row ≡ 1) (after : List ℕ) (after_even : EvenOn after row) where
  -- The only pattern that overlaps the row oddly is its pivot
  pivot_for_only_odd : (before : List ℕ) → EvenOn before row → pivot_for (before ++ e ∷ after) row ≡ e
  unfolding pivot_for
  pivot_for_only_odd [] even = ap (λ (c : ℕ). cond (eqb c 1) e (pivot_for after row)) odd
  pivot_for_only_odd (b ∷ before) even =
      ap (λ (c : ℕ). cond (eqb c 1) b (pivot_for (before ++ e ∷ after) row)) (even 0) ∙ pivot_for_only_odd before (λ i. even (suc i))

  -- It becomes 0, and the others stay
  map_reduce_pattern_only_odd : (before : List ℕ) → EvenOn before row → map (reduce_pattern e row) (before ++ e ∷ after) ≡ before ++ 0 ∷ after
  unfolding scale
  map_reduce_pattern_only_odd [] even =
      ap₂ ◌∷◌ (ap (λ (c : ℕ). bit_xor e (scale c e)) odd ∙ xor_self e) (map_reduce_pattern_even e row after after_even)
  map_reduce_pattern_only_odd (b ∷ before) even =
      ap₂ ◌∷◌ (reduce_pattern_even e row b (even 0)) (map_reduce_pattern_only_odd before (λ i. even (suc i)))

  -- So the row takes it out
  reduce_patterns_only_odd : (before : List ℕ) → EvenOn before row → nonempty (reduce_patterns (before ++ e ∷ after) row) ≡ nonempty (before ++ after)
  unfolding reduce_patterns
  reduce_patterns_only_odd before even =
      ap (λ (pivot : ℕ). nonempty (map (reduce_pattern pivot row) (before ++ e ∷ after))) (pivot_for_only_odd before even)
      ∙ ap nonempty (map_reduce_pattern_only_odd before even)
      ∙ nonempty_without_zero before after

-- ------------------------------------------------------------------
-- Identity rows

-- A unit overlaps itself oddly ..
unit_odd_on_itself : (bit : ℕ) → overlap (2 ^ bit) (2 ^ bit) ≡ 1
unit_odd_on_itself bit = eqb-true _ 1 (sym (has_by_overlap (2 ^ bit) bit) ∙ has_unit bit bit ∙ eq-eqb bit bit refl)

-- .. and every other unit evenly
unit_even_on_other : (bit other : ℕ) → (bit ≡ other → ⊥) → overlap (2 ^ bit) (2 ^ other) ≡ 0
unit_even_on_other bit other apart = even_if_not_odd (2 ^ bit) (2 ^ other) (sym (has_by_overlap (2 ^ other) bit) ∙ has_unit other bit ∙ ne_eqb bit other apart)

-- Units overlap those before them evenly
units_from_even : (count first bit : ℕ) → bit < first → EvenOn (units_from count first) (2 ^ bit)
unfolding units_from
units_from_even zero first bit h = λ i. overlap_zero_left (2 ^ bit)
units_from_even (suc count) first bit h =
    elim [ zero ↦ unit_even_on_other first bit (λ same. omega arith) | suc i ↦ units_from_even count (suc first) bit (omega arith) i ]

-- Patterns and one more are even where they are and it is
even_with_one_more : (patterns : List ℕ) (e v : ℕ) → EvenOn patterns v → overlap e v ≡ 0 → EvenOn (patterns ++ e ∷ []) v
even_with_one_more [] e v even own = elim [ zero ↦ own | suc i ↦ overlap_zero_left v ]
even_with_one_more (p ∷ ps) e v even own = elim [ zero ↦ even 0 | suc i ↦ even_with_one_more ps e v (λ j. even (suc j)) own i ]

-- The units of the places that are not known, of `count` bits from bit `first` on
unfoldable pub lost_units : (ℕ → Bool) → ℕ → ℕ → List ℕ
lost_units known zero first = []
lost_units known (suc count) first = let later = lost_units (λ s. known (suc s)) count (suc first) in cond (known 0) later (2 ^ first ∷ later)

-- After the identity rows the lost units are left, behind patterns that these rows don't change
remaining_after_units_from : (count first : ℕ) (before : List ℕ) → ((bit : ℕ) → first ≤ bit → EvenOn before (2 ^ bit)) → (known : ℕ → Bool) (others : List ℕ)
    → nonempty (remaining (before ++ units_from count first) (survivors known (units_from count first ++ others)))
    ≡ nonempty (remaining (before ++ lost_units known count first) (drop count (survivors known (units_from count first ++ others))))
unfolding units_from survivors lost_units remaining
remaining_after_units_from zero first before even known others = refl
remaining_after_units_from (suc count) first before even known others =
    bool_cases
    (λ c. nonempty (remaining (reduce_patterns (before ++ 2 ^ first ∷ later) (cond c (2 ^ first) 0)) rows)
    ≡ nonempty (remaining (before ++ cond c lost (2 ^ first ∷ lost)) (drop count rows)))
    (remaining_alike_but_zeros (reduce_patterns (before ++ 2 ^ first ∷ later) (2 ^ first)) (before ++ later) rows
    (reduce_patterns_only_odd (2 ^ first) (2 ^ first) (unit_odd_on_itself first) later (units_from_even count (suc first) first (omega arith)) before (even first (omega arith)))
    ∙ remaining_after_units_from count (suc first) before (λ bit h. even bit (omega arith)) (λ s. known (suc s)) others)
    (ap (λ (l : List ℕ). nonempty (remaining l rows)) (reduce_patterns_by_zero (before ++ 2 ^ first ∷ later) ∙ sym (append_snoc before (2 ^ first) later))
    ∙ remaining_after_units_from count (suc first) (before ++ 2 ^ first ∷ [])
    (λ bit h. even_with_one_more before (2 ^ first) (2 ^ bit) (even bit (omega arith)) (unit_even_on_other first bit (λ same. omega arith))) (λ s. known (suc s)) others
    ∙ ap (λ (l : List ℕ). nonempty (remaining l (drop count rows))) (append_snoc before (2 ^ first) lost))
    (known 0)
  where
    later : List ℕ
    later = units_from count (suc first)

    lost : List ℕ
    lost = lost_units (λ s. known (suc s)) count (suc first)

    rows : List ℕ
    rows = survivors (λ s. known (suc s)) (later ++ others)

-- Patterns that differ in zeros alone have the same pivot for a row ..
pub pivot_for_alike_but_zeros : (patterns others : List ℕ) (row : ℕ) → nonempty patterns ≡ nonempty others → pivot_for patterns row ≡ pivot_for others row
pivot_for_alike_but_zeros patterns others row same = sym (pivot_for_nonempty patterns row) ∙ ap (λ (l : List ℕ). pivot_for l row) same ∙ pivot_for_nonempty others row

-- .. and the same pivots for rows
pub pivots_alike_but_zeros : (patterns others rows : List ℕ) → nonempty patterns ≡ nonempty others → pivots patterns rows ≡ pivots others rows
unfolding pivots
pivots_alike_but_zeros patterns others [] same = refl
pivots_alike_but_zeros patterns others (row ∷ rows) same =
    ap₂ ◌∷◌ (pivot_for_alike_but_zeros patterns others row same)
    (pivots_alike_but_zeros (reduce_patterns patterns row) (reduce_patterns others row) rows
    (sym (reduce_patterns_nonempty patterns row) ∙ ap (λ (l : List ℕ). nonempty (reduce_patterns l row)) same ∙ reduce_patterns_nonempty others row))

-- Zeros behind the patterns are no pivots
pub pivots_padded : (patterns rows : List ℕ) → pivots (padded patterns) rows ≡ pivots patterns rows
pivots_padded patterns rows = pivots_alike_but_zeros (padded patterns) patterns rows (nonempty_padded patterns)

-- Zeros behind the patterns change none of those that are left
pub remaining_padded : (patterns rows : List ℕ) → nonempty (remaining (padded patterns) rows) ≡ nonempty (remaining patterns rows)
remaining_padded patterns rows = remaining_alike_but_zeros (padded patterns) patterns rows (nonempty_padded patterns)

-- Of the units, and rows that begin with the identity rows: the lost units are left for the other rows
pub remaining_after_identity_rows : (width : ℕ) (known : ℕ → Bool) (rows : List ℕ) → take width rows ≡ units width
    → nonempty (remaining (units width) (survivors known rows)) ≡ nonempty (remaining (lost_units known width 0) (drop width (survivors known rows)))
remaining_after_identity_rows width known rows begins =
    subst (λ (l : List ℕ). nonempty (remaining (units width) (survivors known l)) ≡ nonempty (remaining (lost_units known width 0) (drop width (survivors known l))))
    (ap (λ (l : List ℕ). l ++ drop width rows) (sym begins) ∙ take-append-drop width rows)
    (remaining_after_units_from width 0 [] (λ bit h i. overlap_zero_left (2 ^ bit)) known (drop width rows))
