-- The order `<` of floats, of any floats, infinities and what is no number too: it is transitive, and no float is below itself. Assumes nothing.
use Rattle.std.proofs.Common.{◌≡◌, ℕ, ◌+◌, ◌*◌, ◌<◌, ◌≤◌, Bool, true, false, sym, refl, ◌∙◌, true≢false, le_of_eq, lt_of_lt_of_le, lt_of_le_of_lt, le_of_lt, mul-le-mul_right, lt_of_mul-lt-mul_right, mul-lt-mul_of_pos_right, mul-pos, mul_right_comm, arith, ltb-true, le-ltb, lt-ltb}
use lib.Ieee.{Float, nan, inf, fin, up, down, below, lt}
use lib.Ieee.Fits.{down_pos}
use lib.Ieee.Positive.{first_pos}

-- Three fractions: where x / p < y / q and y / q < z / r, then x / p < z / r
fractions_between : (x y z p q r : ℕ) → 0 < r → x * q < y * p → y * r < z * q → x * r < z * p
fractions_between x y z p q r R h k =
    lt_of_mul-lt-mul_right q
    (lt_of_le_of_lt (le_of_eq (mul_right_comm x r q))
    (lt_of_lt_of_le (mul-lt-mul_of_pos_right h R)
    (le_chain (le_of_eq (mul_right_comm y p r)) (mul-le-mul_right p (le_of_lt k)) (le_of_eq (mul_right_comm z q p)))))
  where
    le_chain : {a b c d : ℕ} → a ≤ b → b ≤ c → c ≤ d → a ≤ d
    le_chain f g h = omega arith

-- What is above another is above zero, by whatever it is multiplied
above_zero : (a x q p : ℕ) → 0 < p → a < x * q → 0 < x * p
above_zero a x q p P h = mul-pos (first_pos x q (omega arith)) P

sum_above_left : (a b : ℕ) → 0 < a → 0 < a + b
sum_above_left a b h = omega arith

sum_above_right : (a b : ℕ) → 0 < b → 0 < a + b
sum_above_right a b h = omega arith

-- The same of fractions with signs
signed_between : (s t u : Bool) (x y z p q r : ℕ) → 0 < p → 0 < q → 0 < r
    → below s (x * q) t (y * p) ≡ true → below t (y * r) u (z * q) ≡ true → below s (x * r) u (z * p) ≡ true
signed_between false false false x y z p q r P Q R h k = lt-ltb _ _ (fractions_between x y z p q r R (ltb-true _ _ h) (ltb-true _ _ k))
signed_between false false true x y z p q r P Q R h k = absurd (true≢false (sym k))
signed_between false true u x y z p q r P Q R h k = absurd (true≢false (sym h))
signed_between true false false x y z p q r P Q R h k = lt-ltb 0 _ (sum_above_right (x * r) (z * p) (above_zero (y * r) z q p P (ltb-true _ _ k)))
signed_between true false true x y z p q r P Q R h k = absurd (true≢false (sym k))
signed_between true true false x y z p q r P Q R h k = lt-ltb 0 _ (sum_above_left (x * r) (z * p) (above_zero (y * p) x q r R (ltb-true _ _ h)))
signed_between true true true x y z p q r P Q R h k = lt-ltb _ _ (fractions_between z y x r q p P (ltb-true _ _ k) (ltb-true _ _ h))

-- Transitive
pub lt_transitive : (a b c : Float) → lt a b ≡ true → lt b c ≡ true → lt a c ≡ true
unfolding lt
lt_transitive nan b c h k = absurd (true≢false (sym h))
lt_transitive (inf s) nan c h k = absurd (true≢false (sym h))
lt_transitive (inf true) (inf true) c h k = absurd (true≢false (sym h))
lt_transitive (inf false) (inf t) c h k = absurd (true≢false (sym h))
lt_transitive (inf true) (inf false) nan h k = absurd (true≢false (sym k))
lt_transitive (inf true) (inf false) (inf u) h k = absurd (true≢false (sym k))
lt_transitive (inf true) (inf false) (fin u l g) h k = absurd (true≢false (sym k))
lt_transitive (inf false) (fin t n d) c h k = absurd (true≢false (sym h))
lt_transitive (inf true) (fin t n d) nan h k = absurd (true≢false (sym k))
lt_transitive (inf true) (fin t n d) (inf true) h k = absurd (true≢false (sym k))
lt_transitive (inf true) (fin t n d) (inf false) h k = refl
lt_transitive (inf true) (fin t n d) (fin u l g) h k = refl
lt_transitive (fin s m e) nan c h k = absurd (true≢false (sym h))
lt_transitive (fin s m e) (inf true) c h k = absurd (true≢false (sym h))
lt_transitive (fin s m e) (inf false) nan h k = absurd (true≢false (sym k))
lt_transitive (fin s m e) (inf false) (inf u) h k = absurd (true≢false (sym k))
lt_transitive (fin s m e) (inf false) (fin u l g) h k = absurd (true≢false (sym k))
lt_transitive (fin s m e) (fin t n d) nan h k = absurd (true≢false (sym k))
lt_transitive (fin s m e) (fin t n d) (inf true) h k = absurd (true≢false (sym k))
lt_transitive (fin s m e) (fin t n d) (inf false) h k = refl
lt_transitive (fin s m e) (fin t n d) (fin u l g) h k =
    signed_between s t u (m * up e) (n * up d) (l * up g) (down e) (down d) (down g) (down_pos e) (down_pos d) (down_pos g) h k

-- No float is below itself
pub lt_irreflexive : (a : Float) → lt a a ≡ false
unfolding lt
lt_irreflexive nan = refl
lt_irreflexive (inf true) = refl
lt_irreflexive (inf false) = refl
lt_irreflexive (fin true m e) = le-ltb (m * up e * down e) (m * up e * down e) (le_of_eq refl)
lt_irreflexive (fin false m e) = le-ltb (m * up e * down e) (m * up e * down e) (le_of_eq refl)

-- Of two floats at most one is below the other
pub lt_asymmetric : (a b : Float) → lt a b ≡ true → lt b a ≡ false
lt_asymmetric a b h = by_test (lt b a) refl
  where
    by_test : (c : Bool) → lt b a ≡ c → c ≡ false
    by_test true k = absurd (true≢false (sym (lt_transitive a b a h k) ∙ lt_irreflexive a))
    by_test false k = refl
