-- Laws of the searches through bytes. Assumes nothing.
use mathlib.Core.Path.{◌≡◌, ap, ◌∙◌}
use mathlib.Core.List.{List}
use Prim.Native.Nat.{ℕ, ◌+◌, ◌≤◌, ◌<◌}
use native.Mathlib.Decide.{dec_lt}
use native.Mathlib.Omega.{arith}
use lib.Bits.{bit_or, or_add_and, and_le_l, and_le_r}
use lib.ListN.{length, get_or}
use Rattle.soundness.specs.InnerColumns.{FirstNonzero}

-- The bytes before i are zero
abbrev pub ZeroTo : List ℕ → ℕ → Type 0
ZeroTo bytes i = (j : ℕ) → j < i → get_or bytes j 0 ≡ 0

-- One more byte that is zero
pub zero_more : (bytes : List ℕ) (i : ℕ) → ZeroTo bytes i → get_or bytes i 0 ≡ 0 → ZeroTo bytes (i + 1)
zero_more bytes i so_far here j h = by_side (dec_lt j i)
  where
    by_side : Dec (j < i) → get_or bytes j 0 ≡ 0
    by_side (yes before) = so_far j before
    by_side (no after) =
        let same : j ≡ i = omega arith in
        ap (λ (n : ℕ). get_or bytes n 0) same ∙ here

-- A union that is empty is of empty sets
pub union_more : (bytes : List ℕ) (i : ℕ) {all : ℕ} → (all ≡ 0 → ZeroTo bytes i) → bit_or all (get_or bytes i 0) ≡ 0 → ZeroTo bytes (i + 1)
union_more bytes i {all} so_far none =
    let byte = get_or bytes i 0 in
    let first : all ≡ 0 = omega (arith, or_add_and all byte, and_le_r all byte) in
    let second : byte ≡ 0 = omega (arith, or_add_and all byte, and_le_l all byte) in
    zero_more bytes i (so_far first) second

-- All bytes are zero
pub first_nonzero_none : (bytes : List ℕ) (i : ℕ) → length bytes ≤ i → i ≤ length bytes → ZeroTo bytes i → FirstNonzero bytes i
first_nonzero_none bytes i all within zeros = record { within = within; zero_before = zeros; not_there = λ h. absurd (omega arith) }

-- One that is not
pub first_nonzero_found : (bytes : List ℕ) (i : ℕ) → i < length bytes → ZeroTo bytes i → (get_or bytes i 0 ≡ 0 → ⊥) → FirstNonzero bytes i
first_nonzero_found bytes i h zeros some = record { within = omega arith; zero_before = zeros; not_there = λ q. some }
