-- Laws of prices, charges and their sum. Assumes nothing.
use Rattle.std.proofs.Common.{◌≡◌, ℕ, zero, suc, ◌+◌, ◌-◌, ◌^◌, ◌<◌, ◌≤◌, Bool, true, false, ◌&&◌, eqb, List, length, get_or, set, sym, refl, ap, ◌∙◌, subst, ap₂, true≢false, lt_of_le_of_lt, add-one, arith, get_or-set_other, get_or-set_same, below_more, le-ltb}
use mathlib.Core.Path.{fun_ext}
use mathlib.Core.Bool.{and-false}
use lib.Bits.{bit_and, and_le_r}
use lib.Ieee.{Float, binary64, of_bits, of_int, le}
use Rattle.bits.specs.BitSets.{has, count}
use Rattle.bits.specs.Lists.{count_from}
use Rattle.bits.specs.Numerals.{set_width}
use Rattle.bits.proofs.CountLaws.{count_from_enough, count_is_count_from}
use Rattle.bits.proofs.SetLaws.{has_common}
use Rattle.codes.specs.Codes.{LayoutWithin}
use Rattle.codes.specs.Layouts.{symbols_of, disk_of}
use Rattle.codes.specs.declared.Layout.{Layout}
use Rattle.losses.proofs.LossLaws.{strip_inside}
use Rattle.prices.specs.Prices.{float, plus, is_price, is_factor, reads_on, add_charges}

-- ------------------------------------------------------------------
-- The numbers that the code writes

pub zero_is : of_bits binary64 0 ≡ float 0
unfolding of_bits of_int
zero_is = refl

pub one_is : of_bits binary64 0x3ff0_0000_0000_0000 ≡ float 1
unfolding of_bits of_int
one_is = refl

pub factor_bound_is : of_bits binary64 0x4050_0000_0000_0000 ≡ float 64
unfolding of_bits of_int
factor_bound_is = refl

pub price_bound_is : of_bits binary64 0x412e_8480_0000_0000 ≡ float 1000000
unfolding of_bits of_int
price_bound_is = refl

-- A float below the least of an interval is not in it, another one is where it is not above the most
module _ (x : Float) where
  pub price_from : le (of_bits binary64 0) x ≡ true → le x (of_bits binary64 0x412e_8480_0000_0000) ≡ is_price x
  unfolding is_price
  price_from h = ap₂ (λ (a b : Bool). a && b) (sym h ∙ ap (λ (y : Float). le y x) zero_is) (ap (le x) price_bound_is)

  pub no_price_below : le (of_bits binary64 0) x ≡ false → false ≡ is_price x
  unfolding is_price
  no_price_below h = ap (λ (a : Bool). a && le x (float 1000000)) (sym h ∙ ap (λ (y : Float). le y x) zero_is)

  pub factor_from : le (of_bits binary64 0x3ff0_0000_0000_0000) x ≡ true → le x (of_bits binary64 0x4050_0000_0000_0000) ≡ is_factor x
  unfolding is_factor
  factor_from h = ap₂ (λ (a b : Bool). a && b) (sym h ∙ ap (λ (y : Float). le y x) one_is) (ap (le x) factor_bound_is)

  pub no_factor_below : le (of_bits binary64 0x3ff0_0000_0000_0000) x ≡ false → false ≡ is_factor x
  unfolding is_factor
  no_factor_below h = ap (λ (a : Bool). a && le x (float 64)) (sym h ∙ ap (λ (y : Float). le y x) one_is)

-- A state that has both a price and a factor
pub and_taken : (a b r : Bool) → a ≡ true → r ≡ b → r ≡ (a && b)
and_taken true b r h e = e
and_taken false b r h e = absurd (true≢false (sym h))

pub and_left_out : (a b : Bool) → a ≡ false → a ≡ (a && b)
and_left_out true b h = absurd (true≢false h)
and_left_out false b h = refl

-- ------------------------------------------------------------------
-- Reads of a disk

-- The symbols that a set and a disk's strip share are those of the set that lie on the disk
pub reads_counted : (layout : Layout) → LayoutWithin layout → (disk : ℕ) → disk < layout.disks → (read strip : ℕ)
    → ((s : ℕ) → has strip s ≡ eqb (disk_of layout s) disk) → strip < 2 ^ set_width → count (bit_and read strip) ≡ reads_on layout (has read) disk
reads_counted layout within disk below read strip strip_is small =
    let on : ℕ → Bool = λ s. has read s && eqb (disk_of layout s) disk in
    let more : symbols_of layout + (set_width - symbols_of layout) ≡ set_width = omega (arith, within.symbols_to) in
    count_is_count_from set_width (bit_and read strip) (lt_of_le_of_lt (and_le_r read strip) small)
    ∙ ap (λ (test : ℕ → Bool). count_from test 0 set_width) (fun_ext (λ s. has_common read strip s ∙ ap (λ (c : Bool). has read s && c) (strip_is s)))
    ∙ ap (count_from on 0) (sym more)
    ∙ count_from_enough on (symbols_of layout) (set_width - symbols_of layout)
    (λ s h.
    ap (λ (c : Bool). has read s && c) (strip_inside layout within.height_from disk below s ∙ ap (λ (c : Bool). c && eqb (disk_of layout s) disk) (le-ltb s (symbols_of layout) h))
    ∙ and-false (has read s))

-- ------------------------------------------------------------------
-- An array that is filled from its first entry on

-- What holds of each entry so far holds with one more stored
pub stored_more : {A : Type 0} (behind : A) (Right : ℕ → A → Type 0) (list : List A) (here : ℕ) (entry : A) → here < length list
    → ((i : ℕ) → i < here → Right i (get_or list i behind)) → Right here entry → (i : ℕ) → i < here + 1 → Right i (get_or (set list here entry) i behind)
stored_more behind Right list here entry within so_far right =
    below_more (λ i. Right i (get_or (set list here entry) i behind)) here
    (λ i below. subst (Right i) (sym (get_or-set_other list here i entry behind (omega arith))) (so_far i below))
    (subst (Right here) (sym (get_or-set_same list here entry behind within)) right)

-- ------------------------------------------------------------------
-- Strips

-- The strips of the disks before `to`
abbrev pub StripsTo : Layout → ℕ → List ℕ → Type 0
StripsTo layout to strips =
    (disk : ℕ) → disk < to → ((s : ℕ) → has (get_or strips disk 0) s ≡ eqb (disk_of layout s) disk) × (get_or strips disk 0 < 2 ^ set_width)

-- One more strip is stored
pub strip_stored : (layout : Layout) (disk : ℕ) (strips : List ℕ) (strip : ℕ) → disk < length strips → StripsTo layout disk strips
    → ((s : ℕ) → has strip s ≡ eqb (disk_of layout s) disk) → strip < 2 ^ set_width → StripsTo layout (disk + 1) (set strips disk strip)
strip_stored layout disk strips strip within so_far strip_is small =
    stored_more 0 (λ other entry. ((s : ℕ) → has entry s ≡ eqb (disk_of layout s) other) × (entry < 2 ^ set_width)) strips disk strip within so_far (strip_is, small)

-- ------------------------------------------------------------------
-- Sums

-- One more disk's charge
pub charge_added : (charges : ℕ → Float) (disks disk : ℕ) (sum : Float) → disk < disks
    → add_charges charges (disk + 1) (disks - (disk + 1)) (plus sum (charges disk)) ≡ add_charges charges disk (disks - disk) sum
unfolding add_charges
charge_added charges disks disk sum below =
    let left : disks - disk ≡ suc (disks - (disk + 1)) = omega arith in
    rw (left, add-one)

-- Behind the last disk the sum stands
pub charges_all : (charges : ℕ → Float) (disks disk : ℕ) (sum : Float) → disks ≤ disk → sum ≡ add_charges charges disk (disks - disk) sum
unfolding add_charges
charges_all charges disks disk sum behind =
    let left : disks - disk ≡ 0 = omega arith in
    rw left refl

-- Charges that are the same for each disk come to the same sum
pub charges_alike : (a b : ℕ → Float) (count first : ℕ) (sum : Float) → ((disk : ℕ) → disk < first + count → a disk ≡ b disk)
    → add_charges a first count sum ≡ add_charges b first count sum
unfolding add_charges
charges_alike a b zero first sum alike = refl
charges_alike a b (suc count) first sum alike =
    ap (λ (charge : Float). add_charges a (suc first) count (plus sum charge)) (alike first (omega arith))
    ∙ charges_alike a b count (suc first) (plus sum (b first)) (λ disk h. alike disk (omega arith))
