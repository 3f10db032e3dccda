-- Families that can be asked for by name (document 01; EVENODD: document 02, §1).
use Rattle.std.specs.Prelude.{Bool, cond, ◌&&◌, ◌||◌, ℕ, zero, suc, ◌+◌, ◌-◌, ◌*◌, ◌/◌, ◌%◌, ◌^◌, eqb, leb, ltb}
use Rattle.std.specs.Int.Bits.{bit_xor}
use Rattle.codes.specs.Codes.{LinearCode, rows_of}
use Rattle.codes.specs.Layouts.{symbols_of, first_symbol, disk_of}
use Rattle.codes.specs.declared.Layout.{Layout}
use Rattle.family_codes.specs.declared.Family.{Family}
use Rattle.family_codes.specs.declared.Family.TheVariants.{SingleParity, Liberation, RowDiagonal, EvenOdd}

-- ------------------------------------------------------------------
-- The array of a family

-- The number of data disks
abbrev pub data_disks : Family → ℕ
data_disks (SingleParity k r) = k
data_disks (Liberation w k) = k
data_disks (RowDiagonal p) = p - 1
data_disks (EvenOdd p) = p

-- r, the rows of a disk
abbrev pub family_height : Family → ℕ
family_height (SingleParity k r) = r
family_height (Liberation w k) = w
family_height (RowDiagonal p) = p - 1
family_height (EvenOdd p) = p - 1

-- One parity disk, or P and Q
abbrev pub parity_disks : Family → ℕ
parity_disks (SingleParity k r) = 1
parity_disks (Liberation w k) = 2
parity_disks (RowDiagonal p) = 2
parity_disks (EvenOdd p) = 2

-- n disks of r symbols each: the data disks; parity disks follow
abbrev pub family_layout : Family → Layout
family_layout family = record { disks = data_disks family + parity_disks family; height = family_height family }

-- K, the number of data symbols: those before the first parity disk
abbrev pub data_symbols : Family → ℕ
data_symbols family = first_symbol (family_layout family) (data_disks family)

-- ------------------------------------------------------------------
-- Rows of the generator matrix

-- An identity row: the one bit of a data symbol
unfoldable pub unit : ℕ → ℕ
unit symbol = 2 ^ symbol

-- Data disk c, row j is data symbol c × r + j with an identity row
abbrev pub entry : Family → ℕ → ℕ → ℕ
entry family c j = unit (first_symbol (family_layout family) c + j)

-- The XOR of a term for each number below a count
unfoldable pub sum_over : ℕ → (ℕ → ℕ) → ℕ
sum_over zero term = 0
sum_over (suc count) term = bit_xor (sum_over count term) (term count)

-- P is row parity: row i is the XOR of row i
abbrev pub row_parity : Family → ℕ → ℕ
row_parity family i = sum_over (data_disks family) (λ c. entry family c i)

-- Liberation: Q row i takes row (i + c) mod w of each disk c.
abbrev pub liberation_row : ℕ → ℕ → ℕ → ℕ
liberation_row w i c = (i + c) % w

-- For each c from 1, with y = c × (w − 1) / 2 mod w, ..
abbrev pub extra_row : ℕ → ℕ → ℕ
extra_row w c = c * (w - 1) / 2 % w

-- .. Q row y takes row (y + c − 1) mod w of disk c besides
unfoldable pub extra_entry : Family → ℕ → ℕ → ℕ → ℕ
extra_entry family w i c = cond (leb 1 c && eqb (extra_row w c) i) (entry family c ((extra_row w c + c - 1) % w)) 0

-- Both
abbrev pub liberation_entry : Family → ℕ → ℕ → ℕ → ℕ
liberation_entry family w i c = bit_xor (entry family c (liberation_row w i c)) (extra_entry family w i c)

-- Row-diagonal: Q row i takes, of each disk c .., the row j .. with j + c = i mod p.
-- EVENODD: Q whose row i is .. the entries at row (i − c) mod p of each data disk c, ..
abbrev pub diagonal_row : ℕ → ℕ → ℕ → ℕ
diagonal_row p i c = (i + p - c) % p

-- Row-diagonal: the row j below p − 1, if there is one; no other row below p lies on the diagonal.
-- EVENODD: .. an entry at row p − 1 counting as zero. Row j of disk c is `disks c j`
unfoldable pub diagonal_entry : (ℕ → ℕ → ℕ) → ℕ → ℕ → ℕ → ℕ
diagonal_entry disks p i c = cond (ltb (diagonal_row p i c) (p - 1)) (disks c (diagonal_row p i c)) 0

-- Row-diagonal takes the diagonals over the data disks and the row parity disk, which is disk p − 1. Row j of disk c:
unfoldable pub data_or_row_parity : Family → ℕ → ℕ → ℕ
data_or_row_parity family c j = cond (ltb c (data_disks family)) (entry family c j) (row_parity family j)

-- EVENODD: S is the XOR of the entries at row p − 1 − c of disk c, for c from 1 to p − 1
abbrev pub even_odd_s : Family → ℕ → ℕ
even_odd_s family p = sum_over p (λ c. cond (leb 1 c) (entry family c (p - 1 - c)) 0)

-- Row i of Q. Liberation: of each disk c. Row-diagonal: of each disk c from 0 to p − 1. EVENODD: S XOR the entries .. of each data disk c.
-- Single parity has no Q
abbrev pub q_row : Family → ℕ → ℕ
q_row (SingleParity k r) i = 0
q_row (Liberation w k) i = sum_over k (liberation_entry (Liberation w k) w i)
q_row (RowDiagonal p) i = sum_over p (diagonal_entry (data_or_row_parity (RowDiagonal p)) p i)
q_row (EvenOdd p) i = bit_xor (even_odd_s (EvenOdd p) p) (sum_over p (diagonal_entry (entry (EvenOdd p)) p i))

-- Row i of a parity disk, counted from 0: parities P and Q
unfoldable pub parity_row : Family → ℕ → ℕ → ℕ
parity_row family parity i = cond (eqb parity 0) (row_parity family i) (q_row family i)

-- ------------------------------------------------------------------
-- The code of a family

-- Row j of a disk in the generator matrix: identity rows on the data disks; parity disks follow
unfoldable pub disk_row : Family → ℕ → ℕ → ℕ
disk_row family disk j =
    cond (ltb disk (data_disks family)) (entry family disk j) (parity_row family (disk - data_disks family) j)

-- The row of symbol s: the one of its disk that stands so far behind the disk's first symbol
unfoldable pub family_row : Family → ℕ → ℕ
family_row family s =
    disk_row family (disk_of (family_layout family) s) (s - first_symbol (family_layout family) (disk_of (family_layout family) s))

unfoldable pub family_code : Family → LinearCode
family_code family =
    record {
      layout = family_layout family;
      data_symbols = data_symbols family;
      rows = rows_of (symbols_of (family_layout family)) (family_row family);
    }

-- ------------------------------------------------------------------
-- Parameters

-- n at most 64, r at most 32, N at most 64
abbrev pub below_limits : ℕ → ℕ → Bool
below_limits n r = leb n 64 && leb r 32 && leb (n * r) 64

-- What w and p may be
abbrev pub three_five_or_seven : ℕ → Bool
three_five_or_seven number = eqb number 3 || eqb number 5 || eqb number 7

-- Whether the parameters are listed, and n, r and N not above their limits. No listed w, k or p takes them there
unfoldable pub listed : Family → Bool
listed (SingleParity k r) = leb 1 k && leb 1 r && below_limits (k + 1) r
listed (Liberation w k) = three_five_or_seven w && leb 2 k && leb k w
listed (RowDiagonal p) = three_five_or_seven p
listed (EvenOdd p) = three_five_or_seven p
