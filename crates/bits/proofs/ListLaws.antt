-- Laws of lists given by their entries, and of the symbols of a set. Assumes nothing.
use mathlib.Core.Path.{◌≡◌, refl, sym, ap, ◌∙◌}
use mathlib.Core.Bool.{Bool, true, false, cond, true≢false}
use mathlib.Core.List.Memᴰ
use mathlib.Core.List.{◌∷◌, Memᴰ}
use mathlib.Core.Logic.{⊎_elim}
use Prim.Native.Nat.{ℕ, zero, suc, ◌+◌, ◌≤◌, ◌<◌}
use native.Mathlib.Nat.{not-suc-le-zero, le_of_suc-le-suc}
use native.Mathlib.Omega.{arith}
use native.Mathlib.Decide.{dec_lt}
use lib.ListN.{get_or, length}
use Rattle.bits.specs.Lists.{tabulate, symbols_in}

-- ------------------------------------------------------------------
-- By entries

pub length_tabulate : (size : ℕ) (entry : ℕ → ℕ) → length (tabulate size entry) ≡ size
unfolding tabulate
length_tabulate zero entry = refl
length_tabulate (suc size) entry = ap suc (length_tabulate size (λ i. entry (suc i)))

pub get_or_tabulate : (size : ℕ) (entry : ℕ → ℕ) (i : ℕ) → i < size → get_or (tabulate size entry) i 0 ≡ entry i
unfolding tabulate
get_or_tabulate zero entry i h = absurd (not-suc-le-zero h)
get_or_tabulate (suc size) entry zero h = refl
get_or_tabulate (suc size) entry (suc i) h = get_or_tabulate size (λ j. entry (suc j)) i (le_of_suc-le-suc h)

pub get_or_tabulate_behind : (size : ℕ) (entry : ℕ → ℕ) (i : ℕ) → size ≤ i → get_or (tabulate size entry) i 0 ≡ 0
unfolding tabulate
get_or_tabulate_behind zero entry i h = refl
get_or_tabulate_behind (suc size) entry zero h = absurd (not-suc-le-zero h)
get_or_tabulate_behind (suc size) entry (suc i) h = get_or_tabulate_behind size (λ j. entry (suc j)) i (le_of_suc-le-suc h)

-- ------------------------------------------------------------------
-- The symbols of a set

module _ (set : ℕ → Bool) where
  -- Each number of the set is among its symbols
  pub in_symbols_in : (start count t : ℕ) → start ≤ t → t < start + count → set t ≡ true → Memᴰ t (symbols_in set start count)
  unfolding symbols_in
  in_symbols_in start zero t a b in-set = absurd (omega arith)
  in_symbols_in start (suc count) t a b in-set =
      by_side (λ h. in_symbols_in (suc start) count t h (omega arith) in-set) (dec_lt start t) (set start) refl
    where
      by_side : (start < t → Memᴰ t (symbols_in set (suc start) count)) → Dec (start < t) → (c : Bool) → set start ≡ c
          → Memᴰ t (cond c (start ∷ symbols_in set (suc start) count) (symbols_in set (suc start) count))
      by_side later (yes h) true q = Memᴰ.tail (later h)
      by_side later (yes h) false q = later h
      by_side later (no h) true q =
          let same : t ≡ start = omega arith in
          Memᴰ.head same
      by_side later (no h) false q =
          let same : t ≡ start = omega arith in
          absurd (true≢false (sym in-set ∙ ap set same ∙ q))

  -- Each of its symbols is in the set
  pub symbols_in_in : (start count t : ℕ) → Memᴰ t (symbols_in set start count) → set t ≡ true
  unfolding symbols_in
  symbols_in_in start zero t m = absurd (Memᴰ.not-nil m)
  symbols_in_in start (suc count) t m = by_first (symbols_in_in (suc start) count t) (set start) refl m
    where
      by_first : (Memᴰ t (symbols_in set (suc start) count) → set t ≡ true) → (c : Bool) → set start ≡ c
          → Memᴰ t (cond c (start ∷ symbols_in set (suc start) count) (symbols_in set (suc start) count)) → set t ≡ true
      by_first later true q member = ⊎_elim (λ here. ap set here ∙ q) later (Memᴰ.cases_cons member)
      by_first later false q member = later member
