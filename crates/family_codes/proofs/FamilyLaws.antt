-- Laws of the families: sums over disks, what holds of the parameters that refusal 36 lets through, and where rows stand. Assumes nothing.
use mathlib.Core.Path.{◌≡◌, refl, sym, ap, ap₂, ◌∙◌}
use mathlib.Core.Bool.{Bool, true, false, ◌&&◌, ◌||◌, false≢true}
use Prim.Native.Nat.{ℕ, zero, suc, ◌+◌, ◌-◌, ◌*◌, ◌%◌, ◌^◌, ◌≤◌, ◌<◌}
use native.Mathlib.Nat.{mul-le-mul, mod-lt, mod-add-mod, add-mod_right, mod-eq_of_lt}
use native.Mathlib.Numerals.{add-one}
use native.Mathlib.Omega.{arith}
use lib.Bits.{bit_xor, xor_lt}
use lib.Dec.{eqb, leb}
use lib.Pow.{pow_pos}
use borrow.Author.Tests.{leb-true, eqb-true}
use Rattle.bits.specs.Numerals.{set_width}
use Rattle.codes.specs.Layouts.{symbols_of, first_symbol, height_of, disk_of}
use Rattle.codes.specs.declared.Layout.{Layout}
use Rattle.codes.proofs.LayoutLaws.{strips_in_order, strip_within, on_disk_between, on_own_disk, disk_of_below}
use Rattle.family_codes.specs.declared.Family.{Family}
use Rattle.family_codes.specs.declared.Family.TheVariants.{SingleParity, Liberation, RowDiagonal, EvenOdd}
use Rattle.family_codes.specs.Families.{sum_over, diagonal_row, data_disks, family_height, parity_disks, three_five_or_seven, below_limits, listed, data_symbols, family_layout}

-- ------------------------------------------------------------------
-- Sums

-- The sum over one number more
pub sum_over_more : (count : ℕ) (term : ℕ → ℕ) → bit_xor (sum_over count term) (term count) ≡ sum_over (count + 1) term
unfolding sum_over
sum_over_more count term = rw add-one

-- Equal terms have equal sums
pub sum_over_equal : (count : ℕ) (f g : ℕ → ℕ) → ((c : ℕ) → c < count → f c ≡ g c) → sum_over count f ≡ sum_over count g
unfolding sum_over
sum_over_equal zero f g h = refl
sum_over_equal (suc count) f g h =
    ap₂ bit_xor (sum_over_equal count f g (λ c l. h c (omega arith))) (h count (omega arith))

-- A sum of rows of so many bits has no more
pub sum_over_below : (bits count : ℕ) (term : ℕ → ℕ) → ((c : ℕ) → c < count → term c < 2 ^ bits) → sum_over count term < 2 ^ bits
unfolding sum_over
sum_over_below bits zero term h = pow_pos bits
sum_over_below bits (suc count) term h =
    xor_lt bits (sum_over count term) (term count) (sum_over_below bits count term (λ c l. h c (omega arith))) (h count (omega arith))

-- ------------------------------------------------------------------
-- Rows of the matrix

-- The diagonal's row j has j + c = i mod p ..
pub diagonal_row_solves : (p i c : ℕ) → i < p → c ≤ p → (diagonal_row p i c + c) % p ≡ i
diagonal_row_solves p i c h l =
    let back : i + p - c + c ≡ i + p = omega arith in
    mod-add-mod (i + p - c) p c ∙ ap (λ (n : ℕ). n % p) back ∙ add-mod_right i p ∙ mod-eq_of_lt h

-- .. and no other row below p has
pub diagonal_row_alone : (p i c j : ℕ) → c ≤ p → j < p → (j + c) % p ≡ i → j ≡ diagonal_row p i c
diagonal_row_alone p i c j l b e =
    let front : j + c + (p - c) ≡ j + p = omega arith in
    let split : i + (p - c) ≡ i + p - c = omega arith in
    sym (mod-eq_of_lt b)
    ∙ sym (add-mod_right j p)
    ∙ ap (λ (n : ℕ). n % p) (sym front)
    ∙ sym (mod-add-mod (j + c) p (p - c))
    ∙ ap (λ (n : ℕ). (n + (p - c)) % p) e
    ∙ ap (λ (n : ℕ). n % p) split

-- ------------------------------------------------------------------
-- Parameters

both_true : (a b : Bool) → (a && b) ≡ true → (a ≡ true) × (b ≡ true)
both_true true b h = (refl, h)
both_true false b h = absurd (false≢true h)

-- What the list says of w, k and p
pub three_five_or_seven_bounds : (number : ℕ) → three_five_or_seven number ≡ true → (3 ≤ number) × (number ≤ 7)
three_five_or_seven_bounds number = split (eqb number 3) (eqb number 5) (eqb number 7) (eqb-true number 3) (eqb-true number 5) (eqb-true number 7)
  where
    split : (a b c : Bool) → (a ≡ true → number ≡ 3) → (b ≡ true → number ≡ 5) → (c ≡ true → number ≡ 7)
        → (a || b || c) ≡ true → (3 ≤ number) × (number ≤ 7)
    split true b c e f g h = (omega (arith, e refl), omega (arith, e refl))
    split false true c e f g h = (omega (arith, f refl), omega (arith, f refl))
    split false false true e f g h = (omega (arith, g refl), omega (arith, g refl))
    split false false false e f g h = absurd (false≢true h)

pub record LiberationBounds (w k : ℕ) : Type 0 where
  pub w_from : 3 ≤ w
  pub w_to : w ≤ 7
  pub disks_from : 2 ≤ k
  pub disks_to : k ≤ w

pub liberation_bounds : (w k : ℕ) → listed (Liberation w k) ≡ true → LiberationBounds w k
unfolding listed
liberation_bounds w k h =
    let last = both_true (three_five_or_seven w && leb 2 k) (leb k w) h in
    let first = both_true (three_five_or_seven w) (leb 2 k) last.0 in
    let bounds = three_five_or_seven_bounds w first.0 in
    record { w_from = bounds.0; w_to = bounds.1; disks_from = leb-true 2 k first.1; disks_to = leb-true k w last.1 }

pub row_diagonal_bounds : (p : ℕ) → listed (RowDiagonal p) ≡ true → (3 ≤ p) × (p ≤ 7)
unfolding listed
row_diagonal_bounds p h = three_five_or_seven_bounds p h

pub even_odd_bounds : (p : ℕ) → listed (EvenOdd p) ≡ true → (3 ≤ p) × (p ≤ 7)
unfolding listed
even_odd_bounds p h = three_five_or_seven_bounds p h

-- Data disks, parity disks and rows of an array whose n, r and N are within their limits
pub record ShapeBounds (disks parities height : ℕ) : Type 0 where
  pub disks_from : 1 ≤ disks
  pub parities_from : 1 ≤ parities
  pub disks_to : disks + parities ≤ 64
  pub height_from : 1 ≤ height
  pub height_to : height ≤ 32
  pub symbols_to : (disks + parities) * height ≤ 64

-- With two parity disks, up to 7 data disks of up to 7 rows are within the limits
small_shape_bounds : (disks height : ℕ) → 1 ≤ disks → disks ≤ 7 → 1 ≤ height → height ≤ 7 → ShapeBounds disks 2 height
small_shape_bounds disks height a b c d =
    record {
      disks_from = a;
      parities_from = omega arith;
      disks_to = omega arith;
      height_from = c;
      height_to = omega arith;
      symbols_to = omega (arith, mul-le-mul {n₁ = disks + 2} {m₁ = height} {n₂ = 9} {m₂ = 7} (omega arith) d);
    }

-- n, r and N of a listed family are within their limits
pub listed_bounds : (family : Family) → listed family ≡ true → ShapeBounds (data_disks family) (parity_disks family) (family_height family)
unfolding listed
listed_bounds (SingleParity k r) h =
    let halves = both_true (leb 1 k && leb 1 r) (below_limits (k + 1) r) h in
    let from = both_true (leb 1 k) (leb 1 r) halves.0 in
    let to = both_true (leb (k + 1) 64 && leb r 32) (leb ((k + 1) * r) 64) halves.1 in
    let lengths = both_true (leb (k + 1) 64) (leb r 32) to.0 in
    record {
      disks_from = leb-true 1 k from.0;
      parities_from = omega arith;
      disks_to = leb-true (k + 1) 64 lengths.0;
      height_from = leb-true 1 r from.1;
      height_to = leb-true r 32 lengths.1;
      symbols_to = leb-true ((k + 1) * r) 64 to.1;
    }
listed_bounds (Liberation w k) h =
    let b = liberation_bounds w k h in
    small_shape_bounds k w (omega arith) (omega arith) (omega arith) (omega arith)
listed_bounds (RowDiagonal p) h =
    let b = row_diagonal_bounds p h in
    small_shape_bounds (p - 1) (p - 1) (omega arith) (omega arith) (omega arith) (omega arith)
listed_bounds (EvenOdd p) h =
    let b = even_odd_bounds p h in
    small_shape_bounds p (p - 1) (omega arith) (omega arith) (omega arith) (omega arith)

-- ------------------------------------------------------------------
-- N and K of a listed family

-- Each disk has r rows
pub height_of_disk : (family : Family) (disk : ℕ) → height_of (family_layout family) disk ≡ family_height family
unfolding height_of
height_of_disk family disk = refl

-- Row j of a data disk is a data symbol
pub data_symbol_below : (family : Family) (c j : ℕ) → c < data_disks family → j < family_height family
    → first_symbol (family_layout family) c + j < data_symbols family
data_symbol_below family c j l m =
    omega (arith, strips_in_order (family_layout family) c (data_disks family) l, height_of_disk family c)

module _ (family : Family) (h : listed family ≡ true) where
  pub symbols_to : symbols_of (family_layout family) ≤ 64
  unfolding symbols_of
  symbols_to = (listed_bounds family h).symbols_to

  pub data_symbols_to : data_symbols family ≤ 64
  data_symbols_to =
      let b = listed_bounds family h in
      omega (arith, symbols_to, strip_within (family_layout family) (data_disks family) (omega arith))

  pub data_symbols_from : 1 ≤ data_symbols family
  data_symbols_from =
      let b = listed_bounds family h in
      omega (arith, data_symbol_below family 0 0 (omega arith) (omega arith))

  -- A number mod r is a row of a disk
  pub mod_is_row : (r n : ℕ) → family_height family ≡ r → n % r < family_height family
  mod_is_row r n e =
      let b = listed_bounds family h in
      omega (arith, mod-lt n {m = r} (omega arith))

  -- What the functions of a layout ask for
  pub record LayoutBounds (layout : Layout) : Type 0 where
    pub disks_from : data_disks family < layout.disks
    pub disks_to : layout.disks ≤ 64
    pub height_from : 1 ≤ layout.height
    pub height_to : layout.height ≤ 32

  pub layout_bounds : (layout : Layout) → layout ≡ family_layout family → LayoutBounds layout
  layout_bounds layout e =
      let b = listed_bounds family h in
      let disks : layout.disks ≡ data_disks family + parity_disks family = ap (λ (l : Layout). l.disks) e in
      let height : layout.height ≡ family_height family = ap (λ (l : Layout). l.height) e in
      record { disks_from = omega arith; disks_to = omega arith; height_from = omega arith; height_to = omega arith }

  -- Row j of a data disk fits a set
  pub data_symbol_fits : (c j : ℕ) → c < data_disks family → j < family_height family → first_symbol (family_layout family) c + j < set_width
  data_symbol_fits c j l m = omega (arith, data_symbol_below family c j l m, data_symbols_to)

-- ------------------------------------------------------------------
-- The row of a symbol

module _ (family : Family) (h : listed family ≡ true) (s : ℕ) where
  abbrev layout : Layout
  layout = family_layout family

  positive : zero < family_height family
  positive = (listed_bounds family h).height_from

  -- Its disk is one of the array's
  pub disk_of_symbol : s < symbols_of (family_layout family) → disk_of (family_layout family) s < data_disks family + parity_disks family
  disk_of_symbol l = disk_of_below layout positive s l

  -- It stands at or behind the first symbol of its disk, fewer than r rows behind
  pub first_of_symbol : first_symbol (family_layout family) (disk_of (family_layout family) s) ≤ s
  first_of_symbol = (on_disk_between layout (disk_of layout s) s (on_own_disk layout positive s)).0

  pub row_of_symbol : s - first_symbol (family_layout family) (disk_of (family_layout family) s) < family_height family
  row_of_symbol =
      let strip = on_disk_between layout (disk_of layout s) s (on_own_disk layout positive s) in
      omega (arith, strip, height_of_disk family (disk_of layout s))
