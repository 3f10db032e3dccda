-- Laws of the lowest element in which two sets differ: where it lies, what stands there and below it, and how many zeros lead to it. Assumes nothing.
use mathlib.Core.Path.{◌≡◌, refl, sym, ap, ◌∙◌}
use mathlib.Core.Bool.{Bool, true, false, cond, not, ◌&&◌, true≢false}
use Prim.Native.Nat.{ℕ, zero, suc, ◌+◌, ◌-◌, ◌/◌, ◌^◌, ◌≤◌, ◌<◌}
use native.Mathlib.Nat.{add-zero, zero-add, div-one, div-div-eq-div-mul, pow-suc}
use native.Mathlib.Omega.{arith}
use native.Mathlib.Decide.{dec_lt}
use lib.Bits.{bit_and, bit_xor, xor_self}
use lib.Count.{count_trailing_zeros, under, trailing_le}
use lib.Dec.{eqb, ltb}
use borrow.Author.Tests.{lt-ltb, le-ltb, ltb-true, eqb-true, eqb-false, ne_eqb}
use mir.Syntax.{w64}
use mir.Val.{Fits}
use Rattle.bits.specs.BitSets.{has, below, overlap}
use Rattle.bits.specs.Lists.{first_from}
use Rattle.bits.specs.Numerals.{set_width, first_difference}
use Rattle.bits.proofs.SearchLaws.{first_from_none, first_from_holds, none_before_first_from, none_if_first_from_behind, first_from_of_fewer, first_from_passes, first_from_alike}
use Rattle.bits.proofs.SetLaws.{has_empty, has_sum, has_common, has_below, has_by_overlap, unit_alike_if_same_bit, equal_if_same_bits}
use Rattle.bits.proofs.XorLaws.{low_bit_cases}

-- ------------------------------------------------------------------
-- The processor's count of zeros

-- The zeros below a word's lowest bit are as many as a size can be
pub zeros_fit : (word : ℕ) → Fits w64 (count_trailing_zeros 64 word)
zeros_fit word = record { fits = omega (arith, trailing_le 64 word) }

-- So many zeros lead from a bit on to the first that is set
zeros_lead_to_first : (count start set : ℕ) → start + count_trailing_zeros count (set / 2 ^ start) ≡ first_from (has set) start count
unfolding count_trailing_zeros first_from has
zeros_lead_to_first zero start set = add-zero start
zeros_lead_to_first (suc count) start set =
    let half : set / 2 ^ start / 2 ≡ set / 2 ^ suc start = div-div-eq-div-mul set (2 ^ start) 2 ∙ ap (λ (x : ℕ). set / x) (sym (pow-suc 2 start)) in
    let later : suc start + count_trailing_zeros count (set / 2 ^ start / 2) ≡ first_from (has set) (suc start) count =
    ap (λ (x : ℕ). suc start + count_trailing_zeros count x) half ∙ zeros_lead_to_first count (suc start) set in
    low_bit_cases (λ bit. start + under bit (count_trailing_zeros count (set / 2 ^ start / 2)) ≡ cond (eqb bit 1) start (first_from (has set) (suc start) count))
    (omega (arith, later)) (add-zero start) (set / 2 ^ start)

-- The lowest difference is the number of zeros below the lowest bit of the sum
pub zeros_of_sum : (a b : ℕ) → count_trailing_zeros set_width (bit_xor a b) ≡ first_difference a b
unfolding first_difference
zeros_of_sum a b =
    let all : 0 + count_trailing_zeros set_width (bit_xor a b) ≡ count_trailing_zeros set_width (bit_xor a b) = omega arith in
    sym all ∙ ap (λ (x : ℕ). 0 + count_trailing_zeros set_width x) (sym (div-one (bit_xor a b))) ∙ zeros_lead_to_first set_width 0 (bit_xor a b)

-- ------------------------------------------------------------------
-- Sets differ where they aren't equal

-- Where a sum lacks a bit, both sets have it or neither
same_if_sum_lacks : (a b bit : ℕ) → has (bit_xor a b) bit ≡ false → has a bit ≡ has b bit
same_if_sum_lacks a b bit lacks = by_bits (has a bit) (has b bit) (sym (has_sum a b bit) ∙ lacks)
  where
    by_bits : (x y : Bool) → cond y (not x) x ≡ false → x ≡ y
    by_bits true true e = refl
    by_bits true false e = absurd (true≢false e)
    by_bits false true e = absurd (true≢false e)
    by_bits false false e = refl

-- and the other way round
sum_lacks_if_same : (a b bit : ℕ) → has a bit ≡ has b bit → has (bit_xor a b) bit ≡ false
sum_lacks_if_same a b bit same = has_sum a b bit ∙ ap (λ (x : Bool). cond (has b bit) (not x) x) same ∙ by_bit (has b bit)
  where
    by_bit : (y : Bool) → cond y (not y) y ≡ false
    by_bit true = refl
    by_bit false = refl

-- Two numbers of `width` bits differ in a bit below the width exactly where they aren't equal
differ_below_width : (width a b : ℕ) → a < 2 ^ width → b < 2 ^ width → ltb (first_from (has (bit_xor a b)) 0 width) width ≡ not (eqb a b)
differ_below_width width a b a_below b_below = by_test (eqb a b) refl
  where
    by_side : eqb a b ≡ false → Dec (first_from (has (bit_xor a b)) 0 width < width) → ltb (first_from (has (bit_xor a b)) 0 width) width ≡ true
    by_side apart (yes h) = lt-ltb _ width h
    by_side apart (no h) =
        absurd
        (eqb-false a b apart
        (equal_if_same_bits width a b a_below b_below
        (λ bit q. same_if_sum_lacks a b bit (none_if_first_from_behind (has (bit_xor a b)) width 0 bit (omega arith) (omega arith) (omega arith)))))

    by_test : (same : Bool) → eqb a b ≡ same → ltb (first_from (has (bit_xor a b)) 0 width) width ≡ not same
    by_test true e =
        let nothing : bit_xor a b ≡ 0 = ap (λ (x : ℕ). bit_xor x b) (eqb-true a b e) ∙ xor_self b in
        ap (λ (x : ℕ). ltb (first_from (has x) 0 width) width) nothing
        ∙ ap (λ (n : ℕ). ltb n width) (first_from_none (has 0) width 0 (λ j p q. has_empty j))
        ∙ le-ltb (0 + width) width (omega arith)
    by_test false e = by_side e (dec_lt (first_from (has (bit_xor a b)) 0 width) width)

-- The lowest difference of two sets lies within the width exactly where they aren't equal
pub differ_within_set : (a b : ℕ) → a < 2 ^ set_width → b < 2 ^ set_width → ltb (first_difference a b) set_width ≡ not (eqb a b)
unfolding first_difference
differ_within_set = differ_below_width set_width

-- ------------------------------------------------------------------
-- The lowest difference

-- The unit of an element below it overlaps both sets alike
pub alike_below_difference : (a b bit : ℕ) → bit < first_difference a b → overlap (2 ^ bit) a ≡ overlap (2 ^ bit) b
unfolding first_difference
alike_below_difference a b bit h =
    unit_alike_if_same_bit a b bit (same_if_sum_lacks a b bit (none_before_first_from (has (bit_xor a b)) set_width 0 bit (omega arith) h))

module _ (width a b : ℕ) (fits : width ≤ set_width) (a_below : a < 2 ^ width) (b_below : b < 2 ^ width) (apart : a ≡ b → ⊥) where
  -- Of two numbers of `width` bits that aren't equal it lies below that width
  pub difference_below : first_difference a b < width
  unfolding first_difference
  difference_below = by_side (dec_lt (first_from (has (bit_xor a b)) 0 set_width) width)
    where
      test : ℕ → Bool
      test = has (bit_xor a b)

      found : first_from test 0 width < width
      found = ltb-true _ width (differ_below_width width a b a_below b_below ∙ ap not (ne_eqb a b apart))

      by_side : Dec (first_from test 0 set_width < width) → first_from test 0 set_width < width
      by_side (yes h) = h
      by_side (no h) = absurd (omega (arith, found, first_from_of_fewer test width set_width fits, rest h))
        where
          rest : (first_from test 0 set_width < width → ⊥) → cond (ltb (first_from test 0 set_width) width) (first_from test 0 set_width) width ≡ width
          rest h = ap (λ (c : Bool). cond c (first_from test 0 set_width) width) (le-ltb _ width (omega arith))

  -- and its unit overlaps one of the two oddly, the other evenly
  pub apart_at_difference : overlap (2 ^ first_difference a b) a ≡ overlap (2 ^ first_difference a b) b → ⊥
  unfolding first_difference
  apart_at_difference alike =
      let bit = first_difference a b in
      let same : has a bit ≡ has b bit = has_by_overlap a bit ∙ ap (λ (x : ℕ). eqb x 1) alike ∙ sym (has_by_overlap b bit) in
      true≢false (sym (first_from_holds (has (bit_xor a b)) set_width 0 (omega (arith, difference_below))) ∙ sum_lacks_if_same a b bit same)

-- ------------------------------------------------------------------
-- The lowest element from a bound on

-- A set and its part below a bound differ in what the set has from the bound on
pub lowest_from_bound : (set bound : ℕ) → bound ≤ set_width → first_difference set (bit_and set (below bound)) ≡ first_from (has set) bound (set_width - bound)
unfolding first_difference
lowest_from_bound set bound fits =
    let all : bound + (set_width - bound) ≡ set_width = omega arith in
    ap (first_from test 0) (sym all)
    ∙ first_from_passes test bound (set_width - bound) 0 (λ j a b. here j ∙ ap (λ (low : Bool). rest low (has set j)) (lt-ltb j bound (omega arith)) ∙ none (has set j))
    ∙ ap (λ (n : ℕ). first_from test n (set_width - bound)) (zero-add bound)
    ∙ first_from_alike test (has set) (set_width - bound) bound
    (λ j a. here j ∙ ap (λ (low : Bool). rest low (has set j)) (le-ltb j bound a) ∙ same (has set j))
  where
    test : ℕ → Bool
    test = has (bit_xor set (bit_and set (below bound)))

    -- What the two differ in, by whether the element lies below the bound and whether the set has it
    rest : Bool → Bool → Bool
    rest low held = cond (held && low) (not held) held

    here : (j : ℕ) → test j ≡ rest (ltb j bound) (has set j)
    here j =
        has_sum set (bit_and set (below bound)) j
        ∙ ap (λ (both : Bool). cond both (not (has set j)) (has set j)) (has_common set (below bound) j ∙ ap (λ (low : Bool). has set j && low) (has_below bound j))

    none : (held : Bool) → rest true held ≡ false
    none true = refl
    none false = refl

    same : (held : Bool) → rest false held ≡ held
    same true = refl
    same false = refl
