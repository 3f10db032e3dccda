-- Laws of a family's generator matrix as the program makes it: sums over disks, parity rows, the row of a symbol. Assumes nothing.
use mathlib.Core.Path.{◌≡◌, refl, sym, ap, ap₂, ◌∙◌}
use mathlib.Core.Logic.{◌≢◌}
use mathlib.Core.List.{List}
use mathlib.Core.Bool.{cond}
use Prim.Native.Nat.{ℕ, zero, suc, ◌+◌, ◌-◌, ◌%◌, ◌≤◌, ◌<◌}
use native.Mathlib.Nat.{add-mod_right, mod-eq_of_lt}
use native.Mathlib.Omega.{arith}
use lib.Bits.{bit_xor, xor_zero_r}
use lib.Dec.{leb}
use borrow.Author.Tests.{le-leb, ne_eqb, lt-ltb, le-ltb}
use Rattle.codes.specs.Codes.{LinearCode, rows_of}
use Rattle.codes.specs.Layouts.{symbols_of, first_symbol, disk_of}
use Rattle.codes.specs.declared.Layout.{Layout}
use Rattle.family_codes.specs.declared.Family.{Family}
use Rattle.family_codes.specs.declared.Family.TheVariants.{Liberation, RowDiagonal, EvenOdd}
use Rattle.family_codes.specs.Families.{sum_over, entry, data_or_row_parity, diagonal_row, diagonal_entry, even_odd_s, data_disks, data_symbols, family_layout, q_row, parity_row, disk_row, family_row, family_code}
use Rattle.family_codes.proofs.FamilyLaws.{sum_over_more, sum_over_equal}
use Rattle.family_entries.specs.InnerEntries.{q_entry, entry_of}
use Rattle.family_matrices.specs.InnerDataSums.{data_sum}

-- ------------------------------------------------------------------
-- Sums

-- A turn of a loop that sums
pub sum_over_turn : (count : ℕ) (term : ℕ → ℕ) (sum next result : ℕ) → sum ≡ sum_over count term → next ≡ term count
    → result ≡ bit_xor sum next → result ≡ sum_over (count + 1) term
sum_over_turn count term sum next result e f g = g ∙ ap₂ bit_xor e f ∙ sum_over_more count term

-- ------------------------------------------------------------------
-- Parity rows

-- P is the sum over the data disks
pub parity_row_of_p : (family : Family) (i : ℕ) → data_sum family 0 i ≡ parity_row family 0 i
unfolding parity_row entry_of
parity_row_of_p family i = refl

-- Q is the other parity disk
pub parity_row_of_q : (family : Family) (parity i : ℕ) → parity ≢ 0 → parity_row family 1 i ≡ parity_row family parity i
unfolding parity_row
parity_row_of_q family parity i n = sym (simp (ne_eqb parity 0 n))

-- Liberation's is the sum over the data disks
pub q_row_of_liberation : (family : Family) (w k i : ℕ) → family ≡ Liberation w k → data_sum family 1 i ≡ q_row (Liberation w k) i
unfolding entry_of
q_row_of_liberation family w k i e = ap (λ (f : Family). data_sum f 1 i) e

-- Row-diagonal's has disk p − 1 besides, ..
module _ (p i : ℕ) (h : i + 1 < p) where
  abbrev taken : ℕ → ℕ
  taken = diagonal_entry (data_or_row_parity (RowDiagonal p)) p i

  q_row_split : bit_xor (data_sum (RowDiagonal p) 1 i) (taken (p - 1)) ≡ q_row (RowDiagonal p) i
  unfolding entry_of diagonal_entry data_or_row_parity
  q_row_split =
      let disks : p - 1 + 1 ≡ p = omega arith in
      ap (λ (s : ℕ). bit_xor s (taken (p - 1))) (sum_over_equal (p - 1) (q_entry (RowDiagonal p) i) taken (λ c l. simp (lt-ltb c (p - 1) l)))
      ∙ sum_over_more (p - 1) taken
      ∙ ap (λ (n : ℕ). sum_over n taken) disks

  -- .. of which the diagonal takes row i + 1
  row_on_parity : diagonal_row p i (p - 1) ≡ i + 1
  row_on_parity =
      let further : i + p - (p - 1) ≡ i + 1 = omega arith in
      ap (λ (n : ℕ). n % p) further ∙ mod-eq_of_lt h

  pub row_diagonal_with_parity : i + 1 < p - 1 → bit_xor (data_sum (RowDiagonal p) 1 i) (data_sum (RowDiagonal p) 0 (i + 1)) ≡ q_row (RowDiagonal p) i
  unfolding entry_of diagonal_entry data_or_row_parity
  row_diagonal_with_parity l =
      ap (bit_xor (data_sum (RowDiagonal p) 1 i))
      (sym (simp (row_on_parity, lt-ltb (i + 1) (p - 1) l, le-ltb (p - 1) (p - 1) (omega arith))))
      ∙ q_row_split

  -- The last row takes nothing of it
  pub row_diagonal_without_parity : p - 1 ≤ i + 1 → data_sum (RowDiagonal p) 1 i ≡ q_row (RowDiagonal p) i
  unfolding diagonal_entry
  row_diagonal_without_parity l =
      sym (xor_zero_r (data_sum (RowDiagonal p) 1 i))
      ∙ ap (bit_xor (data_sum (RowDiagonal p) 1 i)) (sym (simp (row_on_parity, le-ltb (i + 1) (p - 1) l)))
      ∙ q_row_split

-- EVENODD's S is the diagonal p − 1, ..
module _ (p : ℕ) (h : 1 ≤ p) where
  row_on_last_diagonal : (c : ℕ) → c < p → diagonal_row p (p - 1) c ≡ p - 1 - c
  row_on_last_diagonal c l =
      let turn : p - 1 + p - c ≡ p - 1 - c + p = omega arith in
      let below : p - 1 - c < p = omega arith in
      ap (λ (n : ℕ). n % p) turn ∙ add-mod_right (p - 1 - c) p ∙ mod-eq_of_lt below

  last_diagonal_entry : (family : Family) (c : ℕ) → c < p
      → cond (leb 1 c) (entry family c (p - 1 - c)) 0 ≡ diagonal_entry (entry family) p (p - 1) c
  unfolding diagonal_entry
  last_diagonal_entry family zero l =
      sym (simp (row_on_last_diagonal zero l, le-ltb (p - 1 - zero) (p - 1) (omega arith)))
  last_diagonal_entry family (suc c) l =
      sym (simp (row_on_last_diagonal (suc c) l, lt-ltb (p - 1 - suc c) (p - 1) (omega arith), le-leb 1 (suc c) (omega arith)))

  even_odd_s_is_diagonal : (family : Family) → even_odd_s family p ≡ sum_over p (diagonal_entry (entry family) p (p - 1))
  even_odd_s_is_diagonal family = sum_over_equal p _ (diagonal_entry (entry family) p (p - 1)) (λ c l. last_diagonal_entry family c l)

  -- .. which Q has besides the row's own
  pub q_row_of_even_odd : (i : ℕ) → bit_xor (data_sum (EvenOdd p) 1 (p - 1)) (data_sum (EvenOdd p) 1 i) ≡ q_row (EvenOdd p) i
  unfolding entry_of
  q_row_of_even_odd i =
      ap (λ (s : ℕ). bit_xor s (data_sum (EvenOdd p) 1 i)) (sym (even_odd_s_is_diagonal (EvenOdd p)))

-- ------------------------------------------------------------------
-- The row of a symbol

-- What the program computes of a symbol, and the row that follows
module _ (family : Family) (s k disk row : ℕ) (e : k ≡ data_disks family) (f : disk ≡ disk_of (family_layout family) s)
    (g : row ≡ s - first_symbol (family_layout family) (disk_of (family_layout family) s)) where
  -- A symbol on a data disk has an identity row
  pub family_row_of_data_disk : disk < k → entry family disk row ≡ family_row family s
  unfolding family_row disk_row
  family_row_of_data_disk l =
      ap₂ (entry family) f g ∙ sym (simp (lt-ltb (disk_of (family_layout family) s) (data_disks family) (rw (e, f) at l)))

  -- A symbol on a parity disk has a parity row
  pub family_row_of_parity_disk : k ≤ disk → parity_row family (disk - k) row ≡ family_row family s
  unfolding family_row disk_row
  family_row_of_parity_disk l =
      ap₂ (λ (d j : ℕ). parity_row family (d - k) j) f g
      ∙ ap (λ (n : ℕ). parity_row family (disk_of (family_layout family) s - n) (s - first_symbol (family_layout family) (disk_of (family_layout family) s))) e
      ∙ sym (simp (le-ltb (disk_of (family_layout family) s) (data_disks family) (rw (e, f) at l)))

-- The code is its layout, K and the rows of all symbols
pub family_code_of_parts : (family : Family) (layout : Layout) (symbols count : ℕ) (rows : List ℕ) → layout ≡ family_layout family
    → symbols ≡ symbols_of layout → count ≡ data_symbols family → rows ≡ rows_of symbols (family_row family)
    → ◌≡◌ {A = LinearCode} record { layout = layout; data_symbols = count; rows = rows } (family_code family)
unfolding family_code
family_code_of_parts family layout symbols count rows e f g h = rw (h, f, e, g)
