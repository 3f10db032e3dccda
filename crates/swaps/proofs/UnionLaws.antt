-- Laws of the symbols that any of several sets has. Assumes nothing.
use mathlib.Core.Path.{◌≡◌, refl, sym, ap, ◌∙◌}
use mathlib.Core.Bool.{Bool, true, false, ◌||◌, true≢false}
use mathlib.Core.List.{List, [], ◌∷◌}
use Prim.Native.Nat.{ℕ, zero, suc, ◌+◌, ◌^◌, ◌≤◌, ◌<◌}
use native.Mathlib.Nat.{lt_of_lt_of_le, pow-suc}
use native.Mathlib.Numerals.{add-one}
use native.Mathlib.Omega.{arith}
use lib.Bits.{bit_or, or_zero_l, or_comm, or_lt}
use lib.ListN.{length, get_or, set, take, drop}
use lib.Pow.{pow_mono, pow_pos}
use Rattle.bits.specs.BitSets.{has}
use Rattle.bits.proofs.Booleans.{bool_cases, or_true_if_left, or_true_if_right}
use Rattle.bits.proofs.SetLaws.{has_empty, has_union, equal_if_same_bits}
use Rattle.swaps.specs.Swaps.{read_by}

-- ------------------------------------------------------------------
-- Unions

-- A number has no bit beyond itself
below_own_power : (n : ℕ) → n < 2 ^ n
below_own_power zero = pow_pos 0
below_own_power (suc n) = rw (pow-suc 2 n) (omega (arith, below_own_power n))

pub or_assoc : (a b c : ℕ) → bit_or (bit_or a b) c ≡ bit_or a (bit_or b c)
or_assoc a b c =
    equal_if_same_bits width (bit_or (bit_or a b) c) (bit_or a (bit_or b c)) (or_lt width (bit_or a b) c (or_lt width a b small_a small_b) small_c)
    (or_lt width a (bit_or b c) small_a (or_lt width b c small_b small_c))
    (λ bit h.
    has_union (bit_or a b) c bit
    ∙ ap (λ (x : Bool). x || has c bit) (has_union a b bit)
    ∙ either (has a bit) (has b bit) (has c bit)
    ∙ ap (λ (x : Bool). has a bit || x) (sym (has_union b c bit))
    ∙ sym (has_union a (bit_or b c) bit))
  where
    width : ℕ
    width = a + (b + c)

    small : (n : ℕ) → n ≤ width → n < 2 ^ width
    small n h = lt_of_lt_of_le (below_own_power n) (pow_mono h)

    small_a : a < 2 ^ width
    small_a = small a (omega arith)

    small_b : b < 2 ^ width
    small_b = small b (omega arith)

    small_c : c < 2 ^ width
    small_c = small c (omega arith)

    either : (x y z : Bool) → ((x || y) || z) ≡ (x || (y || z))
    either true y z = refl
    either false y z = refl

-- ------------------------------------------------------------------
-- What several sets read

-- What the sets from one on read: that one's symbols, and what those behind it read
pub read_from : (sets : List ℕ) (s : ℕ) → s < length sets → read_by (drop s sets) ≡ bit_or (get_or sets s 0) (read_by (drop (s + 1) sets))
unfolding read_by
read_from sets s h = rw (add-one s) (by_place sets s h)
  where
    by_place : (l : List ℕ) (i : ℕ) → i < length l → read_by (drop i l) ≡ bit_or (get_or l i 0) (read_by (drop (suc i) l))
    by_place [] i h = omega arith
    by_place (x ∷ xs) zero h = refl
    by_place (x ∷ xs) (suc i) h = by_place xs i (omega arith)

-- Behind the last set nothing is read
pub read_behind : (sets : List ℕ) (s : ℕ) → length sets ≤ s → read_by (drop s sets) ≡ 0
unfolding read_by
read_behind [] zero h = refl
read_behind [] (suc s) h = refl
read_behind (x ∷ xs) zero h = omega arith
read_behind (x ∷ xs) (suc s) h = read_behind xs s (omega arith)

-- With another set at one place: what the others read, and that set's symbols
pub read_with : (sets : List ℕ) (t x : ℕ) → t < length sets → read_by (set sets t x) ≡ bit_or (read_by (set sets t 0)) x
unfolding read_by
read_with [] t x h = omega arith
read_with (y ∷ ys) zero x h = or_comm x (read_by ys) ∙ ap (λ (n : ℕ). bit_or n x) (sym (or_zero_l (read_by ys)))
read_with (y ∷ ys) (suc t) x h = ap (bit_or y) (read_with ys t x (omega arith)) ∙ sym (or_assoc y (read_by (set ys t 0)) x)

-- Without one set: what those before it read, and those behind it
pub read_without : (sets : List ℕ) (t : ℕ) → t < length sets → read_by (set sets t 0) ≡ bit_or (read_by (take t sets)) (read_by (drop (t + 1) sets))
unfolding read_by
read_without sets t h = rw (add-one t) (by_place sets t h)
  where
    by_place : (l : List ℕ) (i : ℕ) → i < length l → read_by (set l i 0) ≡ bit_or (read_by (take i l)) (read_by (drop (suc i) l))
    by_place [] i h = omega arith
    by_place (x ∷ xs) zero h = refl
    by_place (x ∷ xs) (suc i) h = ap (bit_or x) (by_place xs i (omega arith)) ∙ sym (or_assoc x (read_by (take i xs)) (read_by (drop (suc i) xs)))

-- What one set has is read
pub read_if_in_set : (sets : List ℕ) (t s : ℕ) → has (get_or sets t 0) s ≡ true → has (read_by sets) s ≡ true
unfolding read_by
read_if_in_set [] t s h = h
read_if_in_set (x ∷ xs) zero s h = has_union x (read_by xs) s ∙ or_true_if_left (has x s) (has (read_by xs) s) h
read_if_in_set (x ∷ xs) (suc t) s h = has_union x (read_by xs) s ∙ or_true_if_right (has x s) (has (read_by xs) s) (read_if_in_set xs t s h)

-- A set that has a symbol
pub record SetWith (sets : List ℕ) (s : ℕ) : Type 0 where
  pub place : ℕ
  pub has_it : has (get_or sets place 0) s ≡ true

-- What is read, one of the sets has
pub set_with : (sets : List ℕ) (s : ℕ) → has (read_by sets) s ≡ true → SetWith sets s
unfolding read_by
set_with [] s h = absurd (true≢false (sym h ∙ has_empty s))
set_with (x ∷ xs) s h =
    bool_cases (λ c. has x s ≡ c → (c || has (read_by xs) s) ≡ true → SetWith (x ∷ xs) s) (λ here e. record { place = 0; has_it = here })
    (λ there e. let later = set_with xs s e in record { place = suc later.place; has_it = later.has_it }) (has x s) refl (sym (has_union x (read_by xs) s) ∙ h)
