-- Laws of the loops: one symbol more in a column, one entry more in an array, and the first images. Assumes nothing.
use mathlib.Core.Path.{◌≡◌, refl, sym, ap, ap₂, ◌∙◌, subst}
use mathlib.Core.Bool.{Bool, true, false, cond, ◌||◌, true≢false}
use mathlib.Core.List.{List, [], ◌∷◌, ◌++◌}
use Prim.Native.Nat.{ℕ, zero, suc, ◌+◌, ◌/◌, ◌%◌, ◌^◌, ◌≤◌, ◌<◌}
use native.Mathlib.Decide.{dec_lt}
use native.Mathlib.Nat.{pow-succ'}
use native.Mathlib.Omega.{arith}
use lib.Bits.{bit_and, bit_xor, xor_zero_r}
use lib.Dec.{eqb, ltb}
use lib.ListN.{length, get_or, set, get_or-append, get_or-eq_default}
use lib.Seq.{get_or-set_same, get_or-set_other, get_or-append_seam}
use borrow.Author.Tests.{lt-ltb, le-ltb, eqb-true, eqb-false}
use Rattle.std.specs.Prelude.{Option, Some, None, IfSome, IfNone}
use Rattle.bits.specs.BitSets.{has, with, overlap, scale}
use Rattle.bits.specs.Numerals.{set_width}
use Rattle.bits.proofs.OverlapLaws.{overlap_comm, overlap_zero_left, overlap_zero_right, overlap_xor_right, overlap_scale_right, overlap_step, overlap_one, overlap_unit_suc, zero_if_units_even}
use Rattle.bits.proofs.XorLaws.{scale_comm}
use Rattle.bits.proofs.SetLaws.{has_with, has_empty}
use Rattle.gf2.specs.InnerElimination.{reduce_pattern}
use Rattle.gf2.specs.Selection.{select, Below}
use Rattle.gf2.proofs.SelectionLaws.{select_below}
use Rattle.fewest.specs.InnerFewest.{Avoids, Image, Images}
use Rattle.fewest.proofs.ImageLaws.{odd_if_has, even_if_lacks, avoids_if_nothing_shared, nothing_shared_if_avoids}

-- ------------------------------------------------------------------
-- Numbers below a bound that rises by one

ltb_self_next : (n : ℕ) → ltb n (n + 1) ≡ true
ltb_self_next n = lt-ltb n (n + 1) (omega arith)

ltb_other_next : (j n : ℕ) → (j ≡ n → ⊥) → ltb j (n + 1) ≡ ltb j n
ltb_other_next j n other = by_side (dec_lt j n)
  where
    by_side : Dec (j < n) → ltb j (n + 1) ≡ ltb j n
    by_side (yes h) = lt-ltb j (n + 1) (omega arith) ∙ sym (lt-ltb j n h)
    by_side (no h) = le-ltb j (n + 1) (omega arith) ∙ sym (le-ltb j n (omega arith))

-- ------------------------------------------------------------------
-- A column

-- The first s rows have their bits in the column
abbrev pub ColumnTo : List ℕ → ℕ → ℕ → ℕ → Type 0
ColumnTo rows bit s column = (x : ℕ) → has column x ≡ has (cond (ltb x s) (get_or rows x 0) 0) bit

pub column_none : (rows : List ℕ) (bit : ℕ) → ColumnTo rows bit 0 0
column_none rows bit x = has_empty x ∙ sym (ap (λ (c : Bool). has (cond c (get_or rows x 0) 0) bit) (le-ltb x 0 (omega arith)) ∙ has_empty bit)

module _ (rows : List ℕ) (bit s column : ℕ) (so_far : ColumnTo rows bit s column) where
  -- Another symbol stays as it is
  column_other : (x : ℕ) → (x ≡ s → ⊥) → has column x ≡ has (cond (ltb x (s + 1)) (get_or rows x 0) 0) bit
  column_other x other = so_far x ∙ ap (λ (c : Bool). has (cond c (get_or rows x 0) 0) bit) (sym (ltb_other_next x s other))

  column_own : has (cond (ltb s (s + 1)) (get_or rows s 0) 0) bit ≡ has (get_or rows s 0) bit
  column_own = ap (λ (c : Bool). has (cond c (get_or rows s 0) 0) bit) (ltb_self_next s)

  -- A row that has the bit
  pub column_with : has (get_or rows s 0) bit ≡ true → ColumnTo rows bit (s + 1) (with column s)
  column_with inside x = has_with column s x ∙ by_place (eqb x s) refl
    where
      by_place : (c : Bool) → eqb x s ≡ c → (c || has column x) ≡ has (cond (ltb x (s + 1)) (get_or rows x 0) 0) bit
      by_place true e = rw (eqb-true x s e) (sym (column_own ∙ inside))
      by_place false e = column_other x (eqb-false x s e)

  -- A row that lacks it
  pub column_without : has (get_or rows s 0) bit ≡ false → ColumnTo rows bit (s + 1) column
  column_without outside x = by_place (eqb x s) refl
    where
      none : has column s ≡ false
      none = so_far s ∙ ap (λ (c : Bool). has (cond c (get_or rows s 0) 0) bit) (le-ltb s s (omega arith)) ∙ has_empty bit

      by_place : (c : Bool) → eqb x s ≡ c → has column x ≡ has (cond (ltb x (s + 1)) (get_or rows x 0) 0) bit
      by_place true e = rw (eqb-true x s e) (none ∙ sym (column_own ∙ outside))
      by_place false e = column_other x (eqb-false x s e)

-- All rows
pub column_all : (rows : List ℕ) (bit s column : ℕ) → length rows ≤ s → ColumnTo rows bit s column → (x : ℕ) → has column x ≡ has (get_or rows x 0) bit
column_all rows bit s column all so_far x = so_far x ∙ ap (λ (row : ℕ). has row bit) (by_side (dec_lt x s))
  where
    by_side : Dec (x < s) → cond (ltb x s) (get_or rows x 0) 0 ≡ get_or rows x 0
    by_side (yes h) = ap (λ (c : Bool). cond c (get_or rows x 0) 0) (lt-ltb x s h)
    by_side (no h) =
        ap (λ (c : Bool). cond c (get_or rows x 0) 0) (le-ltb x s (omega arith))
        ∙ sym (get_or-eq_default rows 0 {n = x} (omega arith))

-- ------------------------------------------------------------------
-- An array of which each entry in turn is mapped

-- The first i entries are mapped
abbrev pub MappedTo : (ℕ → ℕ) → List ℕ → ℕ → List ℕ → Type 0
MappedTo f old i now = (j : ℕ) → get_or now j 0 ≡ cond (ltb j i) (f (get_or old j 0)) (get_or old j 0)

pub mapped_none : (f : ℕ → ℕ) (old : List ℕ) → MappedTo f old 0 old
mapped_none f old j = sym (ap (λ (c : Bool). cond c (f (get_or old j 0)) (get_or old j 0)) (le-ltb j 0 (omega arith)))

module _ (f : ℕ → ℕ) (old now : List ℕ) (i : ℕ) (so_far : MappedTo f old i now) where
  -- The next entry is still the old one
  pub mapped_next : get_or now i 0 ≡ get_or old i 0
  mapped_next = so_far i ∙ ap (λ (c : Bool). cond c (f (get_or old i 0)) (get_or old i 0)) (le-ltb i i (omega arith))

  mapped_other : (j : ℕ) → (j ≡ i → ⊥) → get_or now j 0 ≡ cond (ltb j (i + 1)) (f (get_or old j 0)) (get_or old j 0)
  mapped_other j other = so_far j ∙ ap (λ (c : Bool). cond c (f (get_or old j 0)) (get_or old j 0)) (sym (ltb_other_next j i other))

  mapped_own : cond (ltb i (i + 1)) (f (get_or old i 0)) (get_or old i 0) ≡ f (get_or old i 0)
  mapped_own = ap (λ (c : Bool). cond c (f (get_or old i 0)) (get_or old i 0)) (ltb_self_next i)

  -- It is stored
  pub mapped_stored : i < length now → {entry : ℕ} → entry ≡ f (get_or old i 0) → MappedTo f old (i + 1) (set now i entry)
  mapped_stored within {entry} e j = by_place (eqb j i) refl
    where
      by_place : (c : Bool) → eqb j i ≡ c → get_or (set now i entry) j 0 ≡ cond (ltb j (i + 1)) (f (get_or old j 0)) (get_or old j 0)
      by_place true q = rw (eqb-true j i q) (get_or-set_same now i entry 0 within ∙ e ∙ sym mapped_own)
      by_place false q = get_or-set_other now i j entry 0 (eqb-false j i q) ∙ mapped_other j (eqb-false j i q)

  -- or need not be
  pub mapped_kept : get_or old i 0 ≡ f (get_or old i 0) → MappedTo f old (i + 1) now
  mapped_kept e j = by_place (eqb j i) refl
    where
      by_place : (c : Bool) → eqb j i ≡ c → get_or now j 0 ≡ cond (ltb j (i + 1)) (f (get_or old j 0)) (get_or old j 0)
      by_place true q = rw (eqb-true j i q) (mapped_next ∙ e ∙ sym mapped_own)
      by_place false q = mapped_other j (eqb-false j i q)

-- An entry that was come to is mapped
pub mapped_entry : (f : ℕ → ℕ) (old now : List ℕ) (i : ℕ) → MappedTo f old i now → (j : ℕ) → j < i → get_or now j 0 ≡ f (get_or old j 0)
mapped_entry f old now i so_far j h = so_far j ∙ ap (λ (c : Bool). cond c (f (get_or old j 0)) (get_or old j 0)) (lt-ltb j i h)

-- An image that has the element gets the pivot added
pub reduced_odd : (pivot unit image : ℕ) → overlap image unit ≡ 1 → reduce_pattern pivot unit image ≡ bit_xor image pivot
unfolding scale
reduced_odd pivot unit image odd = rw odd refl

-- and one that lacks it stays
pub reduced_even : (pivot unit image : ℕ) → overlap image unit ≡ 0 → reduce_pattern pivot unit image ≡ image
unfolding scale
reduced_even pivot unit image even = rw even (xor_zero_r image)

-- ------------------------------------------------------------------
-- What holds of the entries before i

-- One entry more comes behind them
pub entries_more : (P : ℕ → ℕ → Type 0) (now : List ℕ) (i : ℕ) → length now ≡ i → ((j : ℕ) → j < i → P j (get_or now j 0)) → {entry : ℕ} → P i entry
    → (j : ℕ) → j < i + 1 → P j (get_or (now ++ entry ∷ []) j 0)
entries_more P now i all so_far {entry} own j h = by_place (dec_lt j i)
  where
    by_place : Dec (j < i) → P j (get_or (now ++ entry ∷ []) j 0)
    by_place (yes before) = rw (get_or-append now (entry ∷ []) 0 j (omega arith)) (so_far j before)
    by_place (no here) =
        let last : j ≡ length now = omega arith in
        rw (last, get_or-append_seam now entry [] 0) (subst (λ (n : ℕ). P n entry) (sym all) own)

-- ------------------------------------------------------------------
-- The first images

-- A number is below that power of two
lt_two_pow : (n : ℕ) → n < 2 ^ n
lt_two_pow zero = omega arith
lt_two_pow (suc n) = rw (pow-succ' 2 n) (omega (arith, lt_two_pow n))

-- An image overlaps a set as its pattern overlaps the sum of the set's rows
image_reads : (rows : List ℕ) (image pattern : ℕ) → ((s : ℕ) → overlap image (2 ^ s) ≡ overlap pattern (get_or rows s 0)) → (v : ℕ) → overlap pattern (select rows v) ≡ overlap image v
unfolding select
image_reads [] image pattern shows v =
    let none : image ≡ 0 = zero_if_units_even image image (lt_two_pow image) (λ j h. overlap_comm (2 ^ j) image ∙ shows j ∙ overlap_zero_right pattern) in
    overlap_zero_right pattern ∙ sym (ap (λ (x : ℕ). overlap x v) none ∙ overlap_zero_left v)
image_reads (row ∷ rows) image pattern shows v =
    let low : image % 2 ≡ overlap pattern row = sym (overlap_one image) ∙ overlap_comm 1 image ∙ shows 0 in
    overlap_xor_right pattern (scale (v % 2) row) (select rows (v / 2))
    ∙ ap₂ bit_xor
    (overlap_scale_right pattern (v % 2) row ∙ ap (scale (v % 2)) (sym low) ∙ scale_comm v image)
    (image_reads rows (image / 2) pattern
    (λ s. overlap_comm (image / 2) (2 ^ s) ∙ sym (overlap_unit_suc s image) ∙ overlap_comm (2 ^ suc s) image ∙ shows (suc s)) (v / 2))
    ∙ sym (overlap_step image v)

-- The columns are the images of the unit patterns, and where they all overlap a sum evenly, it is 0
pub columns_images : (rows : List ℕ) (width : ℕ) (images : List ℕ) → Below width rows
    → ((i : ℕ) → i < width → (s : ℕ) → has (get_or images i 0) s ≡ has (get_or rows s 0) i) → Images rows (has 0) width images
columns_images rows width images rows_below columns =
    record {
      shown = λ i h. of_unit i h;
      avoid = λ i h s in-none. absurd (true≢false (sym in-none ∙ has_empty s));
      decide =
          λ v all_even pattern even.
          ap (overlap pattern)
          (zero_if_units_even width (select rows v) (select_below width rows v rows_below)
          (λ j h. image_reads rows (get_or images j 0) (2 ^ j) (of_unit j h).shows v ∙ all_even j h))
          ∙ overlap_zero_right pattern;
    }
  where
    same_bit : (a i b s : ℕ) (c : Bool) → has a s ≡ c → has b i ≡ c → overlap a (2 ^ s) ≡ overlap (2 ^ i) b
    same_bit a i b s true e f = odd_if_has a s e ∙ sym (overlap_comm (2 ^ i) b ∙ odd_if_has b i f)
    same_bit a i b s false e f = even_if_lacks a s e ∙ sym (overlap_comm (2 ^ i) b ∙ even_if_lacks b i f)

    of_unit : (i : ℕ) → i < width → Image rows (get_or images i 0)
    of_unit i h = record { pattern = 2 ^ i; shows = λ s. same_bit (get_or images i 0) i (get_or rows s 0) s (has (get_or rows s 0) i) (columns i h s) refl }

-- ------------------------------------------------------------------
-- The next image

-- Of the images before i one that has a wanted symbol, or none has one
pub record NextTo (images : List ℕ) (wanted i : ℕ) (next : Option ℕ) : Type 0 where
  pub found : IfSome next (λ at. (at < length images) × (Avoids (get_or images at 0) (has wanted) → ⊥))
  pub none : IfNone next ((j : ℕ) → j < i → Avoids (get_or images j 0) (has wanted))

-- None was looked at
pub next_start : (images : List ℕ) (wanted : ℕ) → NextTo images wanted 0 None
next_start images wanted = record { found = tt; none = λ j k. absurd (omega arith) }

module _ (images : List ℕ) (wanted i : ℕ) where
  -- Image i has one
  pub next_found : i < length images → wanted < 2 ^ set_width → {image : ℕ} → image ≡ get_or images i 0 → eqb (bit_and image wanted) 0 ≡ false
      → {next : Option ℕ} → next ≡ Some i → NextTo images wanted (i + 1) next
  next_found below small {image} is_image some same =
      rw same
      (record {
        found = (
          below,
          λ avoids.
              eqb-false (bit_and image wanted) 0 some
              (ap (λ (x : ℕ). bit_and x wanted) is_image ∙ nothing_shared_if_avoids set_width (get_or images i 0) wanted small avoids),
        );
        none = tt;
      })

  -- One was found before
  pub next_kept : (before : Option ℕ) {next : Option ℕ} → NextTo images wanted i before → (before ≡ None → ⊥) → next ≡ before → NextTo images wanted (i + 1) next
  next_kept (Some at) so_far found same = rw same (record { found = so_far.found; none = tt })
  next_kept None so_far found same = absurd (found refl)

  -- Image i has none
  pub next_passed : (before : Option ℕ) {next : Option ℕ} → NextTo images wanted i before → {image : ℕ} → image ≡ get_or images i 0 → eqb (bit_and image wanted) 0 ≡ true → next ≡ before
      → NextTo images wanted (i + 1) next
  next_passed (Some at) so_far is_image nothing same = rw same (record { found = so_far.found; none = tt })
  next_passed None so_far {image} is_image nothing same = rw same (record { found = tt; none = λ j k. by_place j k (eqb j i) refl })
    where
      by_place : (j : ℕ) → j < i + 1 → (c : Bool) → eqb j i ≡ c → Avoids (get_or images j 0) (has wanted)
      by_place j k true e =
          rw (eqb-true j i e) (rw (sym is_image) (avoids_if_nothing_shared image wanted (eqb-true (bit_and image wanted) 0 nothing)))
      by_place j k false e =
          let other = eqb-false j i e in
          so_far.none j (omega arith)

-- All were looked at
pub next_all : {images : List ℕ} {wanted i count : ℕ} (next : Option ℕ) → NextTo images wanted i next → length images ≡ count → count ≤ i
    → record {
      found : IfSome next (λ at. (at < count) × (Avoids (get_or images at 0) (has wanted) → ⊥));
      none : IfNone next ((j : ℕ) → j < count → Avoids (get_or images j 0) (has wanted));
    }
next_all (Some at) so_far same all = record { found = (omega (arith, so_far.found.0), so_far.found.1); none = tt }
next_all None so_far same all = record { found = tt; none = λ j h. so_far.none j (omega arith) }
