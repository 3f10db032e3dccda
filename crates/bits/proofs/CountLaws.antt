-- Laws of how many numbers pass a test: stretch by stretch, of all, of none, of parts and halves, and of a set's elements. Assumes nothing.
use mathlib.Core.Path.{◌≡◌, refl, sym, ap, ◌∙◌}
use mathlib.Core.Bool.{Bool, true, false, cond, not, true≢false}
use mathlib.Core.List.{◌∷◌}
use Prim.Native.Nat.{ℕ, zero, suc, ◌+◌, ◌/◌, ◌^◌, ◌≤◌, ◌<◌}
use native.Mathlib.Decide.{dec_le}
use native.Mathlib.Nat.{add-zero, zero-add, div-one}
use native.Mathlib.Numerals.{add-one}
use native.Mathlib.Omega.{arith}
use lib.ListN.{length}
use Rattle.bits.specs.BitSets.{has, count}
use Rattle.bits.specs.Lists.{symbols_in, count_from}
use Rattle.bits.proofs.Booleans.{bool_cases}
use Rattle.bits.proofs.BitSetLaws.{count_above_has, count_above_lacks, count_above_width}

-- One stretch is counted after the other
pub count_from_add : (test : ℕ → Bool) (start count more : ℕ)
    → count_from test start (count + more) ≡ count_from test start count + count_from test (start + count) more
unfolding count_from
count_from_add test start zero more =
    let none : zero + more ≡ more = omega arith in
    rw (none, add-zero start, zero-add)
count_from_add test start (suc count) more =
    let one_more : suc count + more ≡ suc (count + more) = omega arith in
    let next : suc start + count ≡ start + suc count = omega arith in
    rw (one_more, count_from_add test (suc start) count more, next) (omega arith)

-- A stretch of which all pass counts whole
pub count_from_all : (test : ℕ → Bool) (start count : ℕ) → ((i : ℕ) → start ≤ i → i < start + count → test i ≡ true) → count_from test start count ≡ count
unfolding count_from
count_from_all test start zero all = refl
count_from_all test start (suc count) all =
    let here = all start (omega arith) (omega arith) in
    let later = count_from_all test (suc start) count (λ i a b. all i (omega arith) (omega arith)) in
    rw (here, later) (omega arith)

-- A stretch of which none passes counts nothing
pub count_from_none : (test : ℕ → Bool) (start count : ℕ) → ((i : ℕ) → start ≤ i → i < start + count → test i ≡ false) → count_from test start count ≡ 0
unfolding count_from
count_from_none test start zero none = refl
count_from_none test start (suc count) none =
    let here = none start (omega arith) (omega arith) in
    let later = count_from_none test (suc start) count (λ i a b. none i (omega arith) (omega arith)) in
    rw (here, later)

-- Where none passes from a bound on, a larger bound counts the same
pub count_from_enough : (test : ℕ → Bool) (bound more : ℕ) → ((i : ℕ) → bound ≤ i → test i ≡ false) → count_from test 0 (bound + more) ≡ count_from test 0 bound
count_from_enough test bound more none =
    omega (arith, count_from_add test 0 bound more, count_from_none test (0 + bound) more (λ i a b. none i (omega arith)))

-- What passes a test passes one that asks less
pub count_from_within : (part whole : ℕ → Bool) → ((i : ℕ) → part i ≡ true → whole i ≡ true) → (start count : ℕ) → count_from part start count ≤ count_from whole start count
unfolding count_from
count_from_within part whole within start zero = omega arith
count_from_within part whole within start (suc count) =
    by_first (count_from_within part whole within (suc start) count) (part start) (whole start) (within start)
  where
    by_first : count_from part (suc start) count ≤ count_from whole (suc start) count → (a b : Bool) → (a ≡ true → b ≡ true)
        → cond a 1 0 + count_from part (suc start) count ≤ cond b 1 0 + count_from whole (suc start) count
    by_first later true true h = omega arith
    by_first later true false h = absurd (true≢false (sym (h refl)))
    by_first later false true h = omega arith
    by_first later false false h = omega arith

-- Two parts that have nothing in common count no more than the whole
pub count_from_apart : (a b whole : ℕ → Bool) → ((i : ℕ) → a i ≡ true → whole i ≡ true) → ((i : ℕ) → b i ≡ true → whole i ≡ true) → ((i : ℕ) → a i ≡ true → b i ≡ false)
    → (start count : ℕ) → count_from a start count + count_from b start count ≤ count_from whole start count
unfolding count_from
count_from_apart a b whole within_a within_b apart start zero = omega arith
count_from_apart a b whole within_a within_b apart start (suc count) =
    by_first (count_from_apart a b whole within_a within_b apart (suc start) count) (a start) (b start) (whole start) (within_a start) (within_b start) (apart start)
  where
    by_first : count_from a (suc start) count + count_from b (suc start) count ≤ count_from whole (suc start) count → (x y z : Bool) → (x ≡ true → z ≡ true) → (y ≡ true → z ≡ true)
        → (x ≡ true → y ≡ false) → cond x 1 0 + count_from a (suc start) count + (cond y 1 0 + count_from b (suc start) count) ≤ cond z 1 0 + count_from whole (suc start) count
    by_first later true true z f g h = absurd (true≢false (h refl))
    by_first later true false true f g h = omega arith
    by_first later true false false f g h = absurd (true≢false (sym (f refl)))
    by_first later false true true f g h = omega arith
    by_first later false true false f g h = absurd (true≢false (sym (g refl)))
    by_first later false false true f g h = omega arith
    by_first later false false false f g h = omega arith

-- Where one passes, one is counted
pub count_from_some : (test : ℕ → Bool) (start count s : ℕ) → start ≤ s → s < start + count → test s ≡ true → 1 ≤ count_from test start count
unfolding count_from
count_from_some test start zero s a b passes = absurd (omega arith)
count_from_some test start (suc count) s a b passes =
    by_place (dec_le s start) (test start) refl (λ above. count_from_some test (suc start) count s above (omega arith) passes)
  where
    by_place : Dec (s ≤ start) → (c : Bool) → test start ≡ c → (suc start ≤ s → 1 ≤ count_from test (suc start) count) → 1 ≤ cond c 1 0 + count_from test (suc start) count
    by_place d true e later = omega arith
    by_place (yes here) false e later =
        let same : s ≡ start = omega arith in
        absurd (true≢false (sym passes ∙ ap test same ∙ e))
    by_place (no above) false e later = omega (arith, later (omega arith))

-- Of two tests of which one is passed and one is not, both count all
pub count_from_halves : (some others : ℕ → Bool) (start count : ℕ) → ((i : ℕ) → i < start + count → others i ≡ not (some i))
    → count_from some start count + count_from others start count ≡ count
unfolding count_from
count_from_halves some others start zero halves = refl
count_from_halves some others start (suc count) halves =
    by_first (count_from_halves some others (suc start) count (λ i h. halves i (omega arith))) (some start) (others start) (halves start (omega arith))
  where
    by_first : count_from some (suc start) count + count_from others (suc start) count ≡ count → (a b : Bool) → b ≡ not a
        → cond a 1 0 + count_from some (suc start) count + (cond b 1 0 + count_from others (suc start) count) ≡ suc count
    by_first later true true e = absurd (true≢false e)
    by_first later true false e = omega arith
    by_first later false true e = omega arith
    by_first later false false e = absurd (true≢false (sym e))

-- A set has as many symbols as are counted
pub length_symbols_in : (set : ℕ → Bool) (start count : ℕ) → length (symbols_in set start count) ≡ count_from set start count
unfolding symbols_in count_from
length_symbols_in set start zero = refl
length_symbols_in set start (suc count) =
    let rest = symbols_in set (suc start) count in
    bool_cases (λ c. length (cond c (start ∷ rest) rest) ≡ cond c 1 0 + count_from set (suc start) count)
    (omega (arith, length_symbols_in set (suc start) count)) (omega (arith, length_symbols_in set (suc start) count)) (set start)

-- The elements from a place on, one by one, and those above them
count_splits_from : (set place more : ℕ) → count (set / 2 ^ place) ≡ count_from (has set) place more + count (set / 2 ^ (place + more))
unfolding count_from
count_splits_from set place zero = sym (zero-add (count (set / 2 ^ (place + zero))) ∙ ap (λ (n : ℕ). count (set / 2 ^ n)) (add-zero place))
count_splits_from set place (suc more) =
    let next : place + suc more ≡ suc place + more = omega arith in
    by_bit (has set place) refl (ap (λ (n : ℕ). count (set / 2 ^ n)) (add-one place) ∙ count_splits_from set (suc place) more)
    ∙ ap (λ (n : ℕ). cond (has set place) 1 0 + count_from (has set) (suc place) more + count (set / 2 ^ n)) (sym next)
  where
    by_bit : (c : Bool) → has set place ≡ c
        → count (set / 2 ^ (place + 1)) ≡ count_from (has set) (suc place) more + count (set / 2 ^ (suc place + more))
        → count (set / 2 ^ place) ≡ cond (has set place) 1 0 + count_from (has set) (suc place) more + count (set / 2 ^ (suc place + more))
    by_bit true q later = rw q (omega (arith, count_above_has set place q))
    by_bit false q later = rw q (omega (arith, count_above_lacks set place q))

-- A set of `width` bits has as many elements as numbers below the width pass
pub count_is_count_from : (width set : ℕ) → set < 2 ^ width → count set ≡ count_from (has set) 0 width
count_is_count_from width set h =
    ap count (sym (div-one set))
    ∙ count_splits_from set 0 width
    ∙ omega (arith, ap (λ (n : ℕ). count (set / 2 ^ n)) (zero-add width), count_above_width width set h)
