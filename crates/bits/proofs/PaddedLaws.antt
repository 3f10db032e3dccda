-- Laws of an array that begins with some sets and holds empty ones behind them: its entries, and a loop that stores those sets into an array of
-- empty ones. Assumes nothing.
use mathlib.Core.Path.{◌≡◌, refl, sym, ap, ◌∙◌}
use mathlib.Core.Bool.{Bool, true, false, cond}
use mathlib.Core.List.{List, [], ◌∷◌, ◌++◌}
use Prim.Native.Nat.{ℕ, zero, suc, ◌+◌, ◌-◌, ◌≤◌, ◌<◌}
use native.Mathlib.Omega.{arith}
use lib.ListN.{length, get_or, set, take, replicate, length-append, length-replicate, get_or-eq_default}
use lib.Seq.{take-append_seam}
use Rattle.bits.specs.Numerals.{set_width, padded}
use Rattle.bits.proofs.StoreLaws.{overwritten, overwritten_more, overwritten_kept, overwritten_enough}

-- Zeros behind a list change no entry
get_or_zeros_behind : (xs : List ℕ) (count i : ℕ) → get_or (xs ++ replicate count 0) i 0 ≡ get_or xs i 0
get_or_zeros_behind [] zero i = refl
get_or_zeros_behind [] (suc count) zero = refl
get_or_zeros_behind [] (suc count) (suc i) = get_or_zeros_behind [] count i
get_or_zeros_behind (x ∷ xs) count zero = refl
get_or_zeros_behind (x ∷ xs) count (suc i) = get_or_zeros_behind xs count i

-- An array of empty sets in which the first `done` sets of a list are stored
abbrev pub stored_to : List ℕ → ℕ → List ℕ
stored_to list done = overwritten (replicate set_width 0) (padded list) done

module _ (list : List ℕ) where
  -- The entries are the list's
  pub get_or_padded : (i : ℕ) → get_or (padded list) i 0 ≡ get_or list i 0
  unfolding padded
  get_or_padded i = get_or_zeros_behind list (set_width - length list) i

  -- The array begins with the list
  pub take_padded : take (length list) (padded list) ≡ list
  unfolding padded
  take_padded = take-append_seam list (replicate (set_width - length list) 0)

  module _ (fits : length list ≤ set_width) where
    pub length_padded : length (padded list) ≡ set_width
    unfolding padded
    length_padded = omega (arith, length-append list (replicate (set_width - length list) 0), length-replicate {A = ℕ} (set_width - length list) 0)

    -- An array of empty sets has room for it
    room : length (padded list) ≤ length (replicate {A = ℕ} set_width 0)
    room = omega (arith, length_padded, length-replicate {A = ℕ} set_width 0)

    module _ {now : List ℕ} (i : ℕ) (so_far : now ≡ stored_to list i) (within : i < length list) where
      -- One more stored
      pub stored_more : {entry : ℕ} → entry ≡ get_or list i 0 → set now i entry ≡ stored_to list (i + 1)
      stored_more {entry} e =
          overwritten_more (replicate set_width 0) (padded list) room now i entry (omega (arith, length_padded)) so_far
          (e ∙ sym (get_or_padded i))

      -- Of sets that a test chooses, and empty ones for the others, only those that it chooses need be stored
      module _ {test : Bool} (value : ℕ) (chosen : get_or list i 0 ≡ cond test value 0) where
        pub stored_chosen : test ≡ true → {entry : ℕ} → entry ≡ value → set now i entry ≡ stored_to list (i + 1)
        stored_chosen is_chosen e = stored_more (e ∙ sym (chosen ∙ ap (λ (c : Bool). cond c value 0) is_chosen))

        pub stored_passed : test ≡ false → now ≡ stored_to list (i + 1)
        stored_passed not_chosen =
            overwritten_kept (replicate set_width 0) (padded list) room now i (omega (arith, length_padded)) so_far
            (get_or_padded i ∙ chosen ∙ ap (λ (c : Bool). cond c value 0) not_chosen ∙ sym (get_or_zeros_behind [] set_width i))

    -- All stored
    pub stored_all : {now : List ℕ} (i : ℕ) → now ≡ stored_to list i → length list ≤ i → now ≡ padded list
    stored_all {now} i so_far all =
        overwritten_enough (replicate set_width 0) (padded list) now i (sym length_padded) so_far
        (λ j h. get_or_padded j ∙ get_or-eq_default list 0 {n = j} (omega arith) ∙ sym (get_or_zeros_behind [] set_width j))
