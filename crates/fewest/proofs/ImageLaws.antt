-- Images of patterns: a set that is enough meets every image that has a wanted symbol; how images stay so when a symbol is taken. Assumes nothing.
use mathlib.Core.Path.{◌≡◌, refl, sym, ap, ap₂, ◌∙◌, subst}
use mathlib.Core.Bool.{Bool, true, false, ◌&&◌, ◌||◌, true≢false}
use mathlib.Core.List.{List, [], ◌∷◌}
use Prim.Native.Nat.{ℕ, zero, suc, ◌^◌, ◌<◌}
use native.Mathlib.Omega.{arith}
use lib.Bits.{bit_and, bit_xor, xor_zero_r, xor_self, and_le_r}
use lib.Dec.{eqb}
use lib.ListN.{get_or}
use borrow.Author.Tests.{eqb-true, eq-eqb}
use Rattle.bits.specs.BitSets.{has, with, overlap, scale}
use Rattle.bits.proofs.Booleans.{bool_cases}
use Rattle.bits.proofs.XorLaws.{xor_assoc, scale_zero}
use Rattle.bits.proofs.OverlapLaws.{overlap_cases, overlap_comm, overlap_zero_left, overlap_xor_left, overlap_xor_right, overlap_scale_left, overlap_scale_right, overlap_scale_comm, even_if_not_odd, unit_half, unit_low_bit, zero_if_units_even}
use Rattle.bits.proofs.SetLaws.{has_by_overlap, has_common, has_with, has_empty}
use Rattle.gf2.specs.InnerElimination.{reduce_pattern, reduce_row}
use Rattle.gf2.specs.Plans.{Within}
use Rattle.gf2.specs.Selection.{select}
use Rattle.gf2.proofs.SelectionLaws.{select_linear}
use Rattle.fewest.specs.InnerFewest.{Enough, Avoids, Image, Images}

-- ------------------------------------------------------------------
-- Units

-- A unit chooses its row
pub select_unit : (rows : List ℕ) (t : ℕ) → select rows (2 ^ t) ≡ get_or rows t 0
unfolding select scale
select_unit [] t = refl
select_unit (row ∷ rows) zero = ap (bit_xor row) (select_linear rows).of_zero ∙ xor_zero_r row
select_unit (row ∷ rows) (suc t) =
    ap₂ (λ (x y : ℕ). bit_xor (scale x row) (select rows y)) (unit_low_bit t) (unit_half t) ∙ select_unit rows t

-- A set has a symbol whose unit it overlaps oddly
pub odd_if_has : (set s : ℕ) → has set s ≡ true → overlap set (2 ^ s) ≡ 1
odd_if_has set s h = overlap_comm set (2 ^ s) ∙ eqb-true (overlap (2 ^ s) set) 1 (sym (has_by_overlap set s) ∙ h)

pub even_if_lacks : (set s : ℕ) → has set s ≡ false → overlap set (2 ^ s) ≡ 0
even_if_lacks set s h = overlap_comm set (2 ^ s) ∙ even_if_not_odd (2 ^ s) set (sym (has_by_overlap set s) ∙ h)

-- ------------------------------------------------------------------
-- Avoiding

-- An image that shares nothing with a set avoids it
pub avoids_if_nothing_shared : (image set : ℕ) → bit_and image set ≡ 0 → Avoids image (has set)
avoids_if_nothing_shared image set none s in-set =
    even_if_lacks image s
    (by_bit (has image s) (sym (has_common image set s) ∙ ap (λ (x : ℕ). has x s) none ∙ has_empty s))
  where
    by_bit : (c : Bool) → (c && has set s) ≡ false → c ≡ false
    by_bit true e = absurd (true≢false (sym in-set ∙ e))
    by_bit false e = refl

-- An image that avoids a set shares nothing with it
pub nothing_shared_if_avoids : (width image set : ℕ) → set < 2 ^ width → Avoids image (has set) → bit_and image set ≡ 0
nothing_shared_if_avoids width image set below avoids =
    zero_if_units_even width (bit_and image set) (omega (arith, and_le_r image set))
    (λ j h. even_if_not_odd (2 ^ j) (bit_and image set) (sym (has_by_overlap (bit_and image set) j) ∙ has_common image set j ∙ by_bit j (has set j) refl))
  where
    even_lacks : (j : ℕ) → overlap image (2 ^ j) ≡ 0 → has image j ≡ false
    even_lacks j even = has_by_overlap image j ∙ ap (λ (x : ℕ). eqb x 1) (overlap_comm (2 ^ j) image ∙ even)

    by_bit : (j : ℕ) (c : Bool) → has set j ≡ c → (has image j && c) ≡ false
    by_bit j true e = ap (λ (a : Bool). a && true) (even_lacks j (avoids j e))
    by_bit j false e = bool_cases (λ a. (a && false) ≡ false) refl refl (has image j)

-- ------------------------------------------------------------------
-- Enough

-- A set with more is enough too
pub enough_with_more : (rows : List ℕ) (wanted fewer more : ℕ → Bool) → Within fewer more → Enough rows wanted fewer → Enough rows wanted more
enough_with_more rows wanted fewer more within enough pattern even = enough pattern (λ s in-fewer. even s (within s in-fewer))

-- An image that avoids a set that is enough avoids the wanted symbols
pub enough_avoids_wanted : (rows : List ℕ) (wanted set : ℕ → Bool) (image : ℕ) → Image rows image → Enough rows wanted set → Avoids image set → Avoids image wanted
enough_avoids_wanted rows wanted set image shown enough avoids t is_wanted =
    shown.shows t ∙ enough shown.pattern (λ s in-set. sym (shown.shows s) ∙ avoids s in-set) t is_wanted

-- Where all images avoid the wanted symbols, the taken ones are enough
pub enough_if_all_avoid : (rows : List ℕ) (wanted taken : ℕ → Bool) (count : ℕ) (images : List ℕ) → Images rows taken count images
    → ((i : ℕ) → i < count → Avoids (get_or images i 0) wanted) → Enough rows wanted taken
enough_if_all_avoid rows wanted taken count images given avoid pattern even t is_wanted =
    ap (overlap pattern) (sym (select_unit rows t)) ∙ given.decide (2 ^ t) (λ i h. avoid i h t is_wanted) pattern even

-- ------------------------------------------------------------------
-- One symbol taken

-- What a reduced image overlaps
pub overlap_reduced : (pivot unit image v : ℕ) → overlap (reduce_pattern pivot unit image) v ≡ bit_xor (overlap image v) (scale (overlap image unit) (overlap pivot v))
overlap_reduced pivot unit image v =
    overlap_xor_left image (scale (overlap image unit) pivot) v ∙ ap (bit_xor (overlap image v)) (overlap_scale_left (overlap image unit) pivot v)

-- It overlaps a sum as the image overlaps the reduced sum
overlap_reduced_sum : (pivot unit image v : ℕ) → overlap image (reduce_row pivot unit v) ≡ overlap (reduce_pattern pivot unit image) v
overlap_reduced_sum pivot unit image v =
    overlap_xor_right image v (scale (overlap pivot v) unit)
    ∙ ap (bit_xor (overlap image v)) (overlap_scale_right image (overlap pivot v) unit ∙ overlap_scale_comm pivot v image unit)
    ∙ sym (overlap_reduced pivot unit image v)

-- A sum of images is one
pub image_sum : (rows : List ℕ) (a b : ℕ) → Image rows a → Image rows b → Image rows (bit_xor a b)
image_sum rows a b of_a of_b =
    record {
      pattern = bit_xor of_a.pattern of_b.pattern;
      shows =
          λ s.
          overlap_xor_left a b (2 ^ s)
          ∙ ap₂ bit_xor (of_a.shows s) (of_b.shows s)
          ∙ sym (overlap_xor_left of_a.pattern of_b.pattern (get_or rows s 0));
    }

-- The empty image is that of the pattern 0
image_empty : (rows : List ℕ) → Image rows 0
image_empty rows = record { pattern = 0; shows = λ s. overlap_zero_left (2 ^ s) ∙ sym (overlap_zero_left (get_or rows s 0)) }

pub image_scaled : (rows : List ℕ) (bit a : ℕ) → Image rows a → Image rows (scale bit a)
unfolding scale
image_scaled rows zero a of_a = image_empty rows
image_scaled rows (suc bit) a of_a = of_a

-- A bit and itself cancel
own_bit_cancels : (a b : ℕ) → bit_xor (overlap a b) (scale (overlap a b) 1) ≡ 0
unfolding scale
own_bit_cancels a b = overlap_cases (λ c. bit_xor c (scale c 1) ≡ 0) refl refl a b

-- A selection is that without a unit, and the unit's row
select_apart : (rows : List ℕ) (element v bit : ℕ) → select rows v ≡ bit_xor (select rows (bit_xor v (scale bit (2 ^ element)))) (scale bit (get_or rows element 0))
unfolding scale
select_apart rows element v zero = sym (xor_zero_r (select rows (bit_xor v 0)) ∙ ap (select rows) (xor_zero_r v))
select_apart rows element v (suc bit) =
    sym
    (ap (λ (x : ℕ). bit_xor x (get_or rows element 0)) ((select_linear rows).of_sum v (2 ^ element) ∙ ap (bit_xor (select rows v)) (select_unit rows element))
    ∙ xor_assoc (select rows v) (get_or rows element 0) (get_or rows element 0)
    ∙ ap (bit_xor (select rows v)) (xor_self (get_or rows element 0))
    ∙ xor_zero_r (select rows v))

-- The images after a symbol is taken that one of them has: that one is added to each that has the symbol
pub images_taken : (rows : List ℕ) (taken count : ℕ) (images reduced : List ℕ) → Images rows (has taken) count images
    → (at : ℕ) → at < count → (element : ℕ) → overlap (get_or images at 0) (2 ^ element) ≡ 1
    → ((i : ℕ) → i < count → get_or reduced i 0 ≡ reduce_pattern (get_or images at 0) (2 ^ element) (get_or images i 0))
    → Images rows (has (with taken element)) count reduced
images_taken rows taken count images reduced given at at_below element pivot_has are_reduced =
    record {
      shown =
          λ i h. subst (Image rows) (sym (are_reduced i h))
          (image_sum rows (get_or images i 0) _ (given.shown i h) (image_scaled rows (overlap (get_or images i 0) (2 ^ element)) pivot (given.shown at at_below)));
      avoid = λ i h s in-set. ap (λ (x : ℕ). overlap x (2 ^ s)) (are_reduced i h) ∙ avoids i h s (eqb s element) refl (sym (has_with taken element s) ∙ in-set);
      decide =
          λ v all_even pattern even.
          let left = reduce_row pivot (2 ^ element) v in
          let read = overlap pivot v in
          let decided : overlap pattern (select rows left) ≡ 0 =
          given.decide left
          (λ i h. overlap_reduced_sum pivot (2 ^ element) (get_or images i 0) v ∙ sym (ap (λ (x : ℕ). overlap x v) (are_reduced i h)) ∙ all_even i h) pattern
          (λ s in-set. even s (has_with taken element s ∙ ap (λ (c : Bool). eqb s element || c) in-set ∙ bool_cases (λ c. (c || true) ≡ true) refl refl (eqb s element))) in
          let own : overlap pattern (get_or rows element 0) ≡ 0 =
          even element (has_with taken element element ∙ ap (λ (c : Bool). c || has taken element) (eq-eqb element element refl)) in
          ap (overlap pattern) (select_apart rows element v read)
          ∙ overlap_xor_right pattern (select rows left) (scale read (get_or rows element 0))
          ∙ ap₂ bit_xor decided (overlap_scale_right pattern read (get_or rows element 0) ∙ ap (scale read) own ∙ scale_zero read);
    }
  where
    pivot : ℕ
    pivot = get_or images at 0

    avoids : (i : ℕ) → i < count → (s : ℕ) (here : Bool) → eqb s element ≡ here → (here || has taken s) ≡ true
        → overlap (reduce_pattern pivot (2 ^ element) (get_or images i 0)) (2 ^ s) ≡ 0
    avoids i h s true e in-set =
        overlap_reduced pivot (2 ^ element) (get_or images i 0) (2 ^ s)
        ∙ rw (eqb-true s element e) (ap (λ (x : ℕ). bit_xor (overlap (get_or images i 0) (2 ^ element)) (scale (overlap (get_or images i 0) (2 ^ element)) x)) pivot_has ∙ own_bit_cancels (get_or images i 0) (2 ^ element))
    avoids i h s false e in-set =
        overlap_reduced pivot (2 ^ element) (get_or images i 0) (2 ^ s)
        ∙ ap₂ bit_xor (given.avoid i h s in-set) (ap (scale (overlap (get_or images i 0) (2 ^ element))) (given.avoid at at_below s in-set) ∙ scale_zero (overlap (get_or images i 0) (2 ^ element)))
