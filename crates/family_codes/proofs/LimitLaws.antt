-- The code of a listed family is within the limits. Assumes nothing.
use mathlib.Core.Path.{◌≡◌, refl}
use mathlib.Core.Bool.{Bool, true, false, cond, ◌&&◌}
use Prim.Native.Nat.{ℕ, ◌+◌, ◌-◌, ◌%◌, ◌^◌, ◌<◌}
use native.Mathlib.Omega.{arith}
use lib.Bits.{xor_lt}
use lib.Dec.{eqb, leb, ltb}
use lib.Pow.{pow_pos, pow-lt}
use borrow.Author.Tests.{leb-true, ltb-true}
use Rattle.codes.proofs.RowLaws.{length_rows_of, rows_of_below, get_or_rows_of_behind}
use Rattle.codes.specs.Codes.{WithinLimits}
use Rattle.codes.specs.Layouts.{symbols_of, first_symbol, disk_of}
use Rattle.family_codes.specs.declared.Family.{Family}
use Rattle.family_codes.specs.declared.Family.TheVariants.{SingleParity, Liberation, RowDiagonal, EvenOdd}
use Rattle.family_codes.specs.Families.{unit, entry, sum_over, row_parity, liberation_row, extra_row, extra_entry, liberation_entry, data_or_row_parity, diagonal_row, diagonal_entry, even_odd_s, q_row, data_disks, family_height, parity_row, disk_row, family_row, family_layout, data_symbols, family_code, listed}
use Rattle.family_codes.proofs.FamilyLaws.{sum_over_below, listed_bounds, data_symbol_below, mod_is_row, symbols_to, data_symbols_from, data_symbols_to, row_of_symbol}

-- Both ways of a choice are below
cond_below : (test : Bool) (a b bound : ℕ) → (test ≡ true → a < bound) → b < bound → cond test a b < bound
cond_below true a b bound h l = h refl
cond_below false a b bound h l = l

-- An identity row has K bits
entry_below : (family : Family) (c j : ℕ) → c < data_disks family → j < family_height family → entry family c j < 2 ^ data_symbols family
unfolding unit
entry_below family c j l m = pow-lt (data_symbol_below family c j l m)

-- Rows mod w are rows of a disk
module _ (family : Family) (h : listed family ≡ true) (w i c : ℕ) (l : c < data_disks family) (e : family_height family ≡ w) where
  extra_entry_below : extra_entry family w i c < 2 ^ data_symbols family
  unfolding extra_entry
  extra_entry_below =
      cond_below (leb 1 c && eqb (extra_row w c) i) (entry family c ((extra_row w c + c - 1) % w)) 0 (2 ^ data_symbols family)
      (λ t. entry_below family c ((extra_row w c + c - 1) % w) l (mod_is_row family h w _ e)) (pow_pos (data_symbols family))

  liberation_entry_below : liberation_entry family w i c < 2 ^ data_symbols family
  liberation_entry_below =
      xor_lt (data_symbols family) (entry family c (liberation_row w i c)) (extra_entry family w i c)
      (entry_below family c (liberation_row w i c) l (mod_is_row family h w _ e)) extra_entry_below

-- A diagonal takes rows below p − 1
diagonal_entry_below : (disks : ℕ → ℕ → ℕ) (p i c bits : ℕ) → ((j : ℕ) → j < p - 1 → disks c j < 2 ^ bits) → diagonal_entry disks p i c < 2 ^ bits
unfolding diagonal_entry
diagonal_entry_below disks p i c bits h =
    cond_below (ltb (diagonal_row p i c) (p - 1)) (disks c (diagonal_row p i c)) 0 (2 ^ bits)
    (λ t. h (diagonal_row p i c) (ltb-true (diagonal_row p i c) (p - 1) t)) (pow_pos bits)

-- Row parity has K bits
row_parity_below : (family : Family) (j : ℕ) → j < family_height family → row_parity family j < 2 ^ data_symbols family
row_parity_below family j m =
    sum_over_below (data_symbols family) (data_disks family) (λ c. entry family c j) (λ c l. entry_below family c j l m)

data_or_row_parity_below : (family : Family) (c j : ℕ) → j < family_height family → data_or_row_parity family c j < 2 ^ data_symbols family
unfolding data_or_row_parity
data_or_row_parity_below family c j m =
    cond_below (ltb c (data_disks family)) (entry family c j) (row_parity family j) (2 ^ data_symbols family)
    (λ t. entry_below family c j (ltb-true c (data_disks family) t) m) (row_parity_below family j m)

-- S has K bits
even_odd_s_below : (p : ℕ) → even_odd_s (EvenOdd p) p < 2 ^ data_symbols (EvenOdd p)
even_odd_s_below p =
    let family = EvenOdd p in
    let K = data_symbols family in
    sum_over_below K p _
    (λ c l. cond_below (leb 1 c) (entry family c (p - 1 - c)) 0 (2 ^ K)
    (λ t. entry_below family c (p - 1 - c) l (omega (arith, leb-true 1 c t))) (pow_pos K))

-- Q has K bits
q_row_below : (family : Family) → listed family ≡ true → (i : ℕ) → q_row family i < 2 ^ data_symbols family
q_row_below (SingleParity k r) h i = pow_pos (data_symbols (SingleParity k r))
q_row_below (Liberation w k) h i =
    let family = Liberation w k in
    sum_over_below (data_symbols family) k (liberation_entry family w i) (λ c l. liberation_entry_below family h w i c l refl)
q_row_below (RowDiagonal p) h i =
    let family = RowDiagonal p in
    let K = data_symbols family in
    sum_over_below K p (diagonal_entry (data_or_row_parity family) p i)
    (λ c l. diagonal_entry_below (data_or_row_parity family) p i c K (λ j m. data_or_row_parity_below family c j m))
q_row_below (EvenOdd p) h i =
    let family = EvenOdd p in
    let K = data_symbols family in
    xor_lt K (even_odd_s family p) (sum_over p (diagonal_entry (entry family) p i)) (even_odd_s_below p)
    (sum_over_below K p (diagonal_entry (entry family) p i) (λ c l. diagonal_entry_below (entry family) p i c K (λ j m. entry_below family c j l m)))

module _ (family : Family) (h : listed family ≡ true) where
  parity_row_below : (parity i : ℕ) → i < family_height family → parity_row family parity i < 2 ^ data_symbols family
  unfolding parity_row
  parity_row_below parity i m =
      cond_below (eqb parity 0) (row_parity family i) (q_row family i) (2 ^ data_symbols family)
      (λ t. row_parity_below family i m) (q_row_below family h i)

  -- Each row has K bits
  family_row_below : (s : ℕ) → family_row family s < 2 ^ data_symbols family
  unfolding family_row disk_row
  family_row_below s =
      let k = data_disks family in
      let disk = disk_of (family_layout family) s in
      let j = s - first_symbol (family_layout family) disk in
      cond_below (ltb disk k) (entry family disk j) (parity_row family (disk - k) j) (2 ^ data_symbols family)
      (λ t. entry_below family disk j (ltb-true disk k t) (row_of_symbol family h s)) (parity_row_below (disk - k) j (row_of_symbol family h s))

  pub family_code_within_limits : WithinLimits (family_code family)
  unfolding family_code
  family_code_within_limits =
      let bounds = listed_bounds family h in
      let count = symbols_of (family_layout family) in
      record {
        disks_from = omega arith;
        disks_to = bounds.disks_to;
        height_from = bounds.height_from;
        height_to = bounds.height_to;
        symbols_to = symbols_to family h;
        data_from = data_symbols_from family h;
        data_to = data_symbols_to family h;
        rows_held = length_rows_of (family_row family) count (omega (arith, symbols_to family h));
        rows_below = rows_of_below (family_row family) count (data_symbols family) (λ s l. family_row_below s);
        rows_behind = get_or_rows_of_behind (family_row family) count;
      }
