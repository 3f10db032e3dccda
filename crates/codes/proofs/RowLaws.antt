-- Laws of the rows as a code holds them, and of a loop that stores them. Assumes nothing.
use mathlib.Core.Path.{◌≡◌, sym, ◌∙◌, subst}
use mathlib.Core.List.{List}
use Prim.Native.Nat.{ℕ, ◌+◌, ◌^◌, ◌≤◌, ◌<◌}
use native.Mathlib.Omega.{arith}
use native.Mathlib.Decide.{dec_lt}
use lib.ListN.{length, get_or, set}
use lib.Pow.{pow_pos}
use Rattle.bits.specs.Lists.{tabulate}
use Rattle.bits.specs.Numerals.{set_width}
use Rattle.bits.proofs.ListLaws.{length_tabulate, get_or_tabulate, get_or_tabulate_behind}
use Rattle.bits.proofs.PaddedLaws.{get_or_padded, length_padded, stored_to, stored_more, stored_all}
use Rattle.codes.specs.Codes.{rows_of}

module _ (row : ℕ → ℕ) (count : ℕ) where
  -- Row s of a symbol
  pub get_or_rows_of : (s : ℕ) → s < count → get_or (rows_of count row) s 0 ≡ row s
  unfolding rows_of
  get_or_rows_of s h = get_or_padded (tabulate count row) s ∙ get_or_tabulate count row s h

  -- Rows behind the last symbol are empty
  pub get_or_rows_of_behind : (s : ℕ) → count ≤ s → get_or (rows_of count row) s 0 ≡ 0
  unfolding rows_of
  get_or_rows_of_behind s h = get_or_padded (tabulate count row) s ∙ get_or_tabulate_behind count row s h

  -- Rows of so many bits
  pub rows_of_below : (bits : ℕ) → ((s : ℕ) → s < count → row s < 2 ^ bits) → (s : ℕ) → get_or (rows_of count row) s 0 < 2 ^ bits
  rows_of_below bits h s = split (dec_lt s count)
    where
      split : Dec (s < count) → get_or (rows_of count row) s 0 < 2 ^ bits
      split (yes l) = subst (λ (x : ℕ). x < 2 ^ bits) (sym (get_or_rows_of s l)) (h s l)
      split (no l) = subst (λ (x : ℕ). x < 2 ^ bits) (sym (get_or_rows_of_behind s (omega arith))) (pow_pos bits)

  module _ (fits : count ≤ set_width) where
    tabulated_fit : length (tabulate count row) ≤ set_width
    tabulated_fit = omega (arith, length_tabulate count row)

    pub length_rows_of : length (rows_of count row) ≡ set_width
    unfolding rows_of
    length_rows_of = length_padded (tabulate count row) tabulated_fit

    -- One more row stored
    pub rows_more : {rows : List ℕ} (s : ℕ) → rows ≡ stored_to (tabulate count row) s → s < count → {next : ℕ} → next ≡ row s
        → set rows s next ≡ stored_to (tabulate count row) (s + 1)
    rows_more s so_far h e =
        stored_more (tabulate count row) tabulated_fit s so_far (omega (arith, length_tabulate count row)) (e ∙ sym (get_or_tabulate count row s h))

    -- All stored
    pub rows_all : {rows : List ℕ} (s : ℕ) → rows ≡ stored_to (tabulate count row) s → count ≤ s → rows ≡ rows_of count row
    unfolding rows_of
    rows_all s so_far h = stored_all (tabulate count row) tabulated_fit s so_far (omega (arith, length_tabulate count row))
