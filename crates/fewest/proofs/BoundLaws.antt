-- The bound of the search: images are spread without a change to what they say; disjoint images with a wanted symbol need a symbol each. Assumes nothing.
use mathlib.Core.Path.{◌≡◌, refl, sym, ap, ap₂, ◌∙◌, subst}
use mathlib.Core.Bool.{Bool, true, false, ◌&&◌, ◌||◌, true≢false}
use mathlib.Core.List.{List}
use Prim.Native.Nat.{ℕ, ◌+◌, ◌^◌, ◌≤◌, ◌<◌}
use native.Mathlib.Decide.{dec_le}
use native.Mathlib.Omega.{arith}
use lib.Bits.{bit_and, bit_or, bit_xor, xor_zero_r}
use lib.Dec.{eqb}
use lib.ListN.{length, get_or, set}
use lib.Seq.{get_or-set_same, get_or-set_other}
use borrow.Author.Tests.{eqb-true, eqb-false}
use Rattle.bits.specs.BitSets.{has, overlap, scale}
use Rattle.bits.specs.Numerals.{set_width}
use Rattle.bits.proofs.Booleans.{bool_cases, and_left, and_right, and_true_if_both, or_true_if_left, or_true_if_right}
use Rattle.bits.proofs.CountLaws.{count_from_apart, count_from_some}
use Rattle.bits.proofs.OverlapLaws.{overlap_comm, overlap_xor_left}
use Rattle.bits.proofs.XorLaws.{scale_zero}
use Rattle.bits.proofs.SetLaws.{has_common, has_union, has_above, has_empty, has_by_overlap}
use Rattle.gf2.specs.InnerElimination.{reduce_pattern}
use Rattle.gf2.specs.Plans.{Within}
use Rattle.fewest.specs.InnerFewest.{Enough, size, Avoids, Image, Images, Meets, Needed}
use Rattle.fewest.proofs.ImageLaws.{even_if_lacks, overlap_reduced, image_sum, image_scaled, enough_avoids_wanted, nothing_shared_if_avoids}

-- ------------------------------------------------------------------
-- One image added to the others

pub images_spread : (rows : List ℕ) (taken : ℕ → Bool) (total : ℕ) (images reduced : List ℕ) (i unit : ℕ) → i < total → i < length reduced
    → ((j : ℕ) → j < total → get_or reduced j 0 ≡ reduce_pattern (get_or images i 0) unit (get_or images j 0)) → {entry : ℕ} → entry ≡ get_or images i 0
    → Images rows taken total images → Images rows taken total (set reduced i entry)
images_spread rows taken total images reduced i unit below within are_reduced {entry} is_entry given =
    record {
      shown = λ j h. by_place (λ x. Image rows x) j h (given.shown i below) (image_sum rows (get_or images j 0) _ (given.shown j h) (image_scaled rows (overlap (get_or images j 0) unit) pivot (given.shown i below)));
      avoid =
          λ j h s in_taken.
          by_place (λ x. overlap x (2 ^ s) ≡ 0) j h (given.avoid i below s in_taken)
          (overlap_reduced pivot unit (get_or images j 0) (2 ^ s)
          ∙ ap₂ bit_xor (given.avoid j h s in_taken) (ap (scale (overlap (get_or images j 0) unit)) (given.avoid i below s in_taken) ∙ scale_zero (overlap (get_or images j 0) unit)));
      decide = λ v all_even. given.decide v (λ j h. evens v all_even j h (eqb j i) refl);
    }
  where
    pivot : ℕ
    pivot = get_or images i 0

    -- What holds of the pivot and of a reduced image holds of the entry
    by_place : (P : ℕ → Type 0) (j : ℕ) → j < total → P (get_or images i 0) → P (reduce_pattern (get_or images i 0) unit (get_or images j 0)) → P (get_or (set reduced i entry) j 0)
    by_place P j h own other = by_test (eqb j i) refl
      where
        by_test : (c : Bool) → eqb j i ≡ c → P (get_or (set reduced i entry) j 0)
        by_test true e = subst P (sym (ap (λ (n : ℕ). get_or (set reduced i entry) n 0) (eqb-true j i e) ∙ get_or-set_same reduced i entry 0 within ∙ is_entry)) own
        by_test false e = subst P (sym (get_or-set_other reduced i j entry 0 (eqb-false j i e) ∙ are_reduced j h)) other

    evens : (v : ℕ) → ((j : ℕ) → j < total → overlap (get_or (set reduced i entry) j 0) v ≡ 0) → (j : ℕ) → j < total → (c : Bool) → eqb j i ≡ c → overlap (get_or images j 0) v ≡ 0
    evens v all_even j h true e =
        ap (λ (n : ℕ). overlap (get_or images n 0) v) (eqb-true j i e)
        ∙ sym (ap (λ (x : ℕ). overlap x v) (get_or-set_same reduced i entry 0 within ∙ is_entry))
        ∙ all_even i below
    evens v all_even j h false e =
        let own : overlap pivot v ≡ 0 = sym (ap (λ (x : ℕ). overlap x v) (get_or-set_same reduced i entry 0 within ∙ is_entry)) ∙ all_even i below in
        let reduced_even : overlap (reduce_pattern pivot unit (get_or images j 0)) v ≡ 0 =
        sym (ap (λ (x : ℕ). overlap x v) (get_or-set_other reduced i j entry 0 (eqb-false j i e) ∙ are_reduced j h)) ∙ all_even j h in
        same (overlap (get_or images j 0) v) (overlap (get_or images j 0) unit) (overlap pivot v) own (sym (overlap_reduced pivot unit (get_or images j 0) v) ∙ reduced_even)
      where
        same : (x c y : ℕ) → y ≡ 0 → bit_xor x (scale c y) ≡ 0 → x ≡ 0
        same x c y none e = sym (xor_zero_r x) ∙ sym (ap (bit_xor x) (ap (scale c) none ∙ scale_zero c)) ∙ e

-- ------------------------------------------------------------------
-- Disjoint images

-- A set that is enough meets a sum of images that has a wanted symbol, in a symbol that may be taken
pub meets : (rows : List ℕ) (wanted allowed : ℕ) (taken other : ℕ → Bool) (image : ℕ) → wanted < 2 ^ set_width → allowed < 2 ^ set_width → Image rows image → Avoids image taken
    → Enough rows (has wanted) other → Within other (λ s. taken s || has allowed s) → Meets wanted allowed taken other image
meets rows wanted allowed taken other image wanted_small allowed_small shown apart enough within =
    record { met = λ bad. by_size bad (dec_le 1 (size (λ s. other s && has (bit_and image allowed) s))); apart = apart }
  where
    by_size : (bit_and image wanted ≡ 0 → ⊥) → Dec (1 ≤ size (λ s. other s && has (bit_and image allowed) s)) → 1 ≤ size (λ s. other s && has (bit_and image allowed) s)
    by_size bad (yes some) = some
    by_size bad (no none) =
        absurd (bad (nothing_shared_if_avoids set_width image wanted wanted_small (enough_avoids_wanted rows (has wanted) other image shown enough (λ s inside. avoided s inside (taken s) refl (within s inside)))))
      where
        below_width : (s : ℕ) → has allowed s ≡ true → s < set_width
        below_width s may = by_side (dec_le set_width s)
          where
            by_side : Dec (set_width ≤ s) → s < set_width
            by_side (yes above) = absurd (true≢false (sym may ∙ has_above set_width allowed s allowed_small above))
            by_side (no below) = omega arith

        lacks : (s : ℕ) → other s ≡ true → has allowed s ≡ true → has image s ≡ false
        lacks s inside may = by_bit (has image s) refl
          where
            by_bit : (c : Bool) → has image s ≡ c → c ≡ false
            by_bit true e =
                absurd
                (none
                (count_from_some (λ s. other s && has (bit_and image allowed) s) 0 set_width s (omega arith) (below_width s may)
                (and_true_if_both (other s) (has (bit_and image allowed) s) inside (has_common image allowed s ∙ and_true_if_both (has image s) (has allowed s) e may))))
            by_bit false e = refl

        avoided : (s : ℕ) → other s ≡ true → (c : Bool) → taken s ≡ c → (c || has allowed s) ≡ true → overlap image (2 ^ s) ≡ 0
        avoided s inside true e h = apart s e
        avoided s inside false e h = even_if_lacks image s (lacks s inside h)

-- One more image
pub needed_more : {wanted allowed used found image : ℕ} {taken other : ℕ → Bool} → Meets wanted allowed taken other image → Needed taken other used found
    → (bit_and image wanted ≡ 0 → ⊥) → bit_and (bit_and image allowed) used ≡ 0 → Needed taken other (bit_or used (bit_and image allowed)) (found + 1)
needed_more {wanted} {allowed} {used} {found} {image} {taken} {other} meets so_far bad nothing =
    record {
      counted =
          omega (
            arith,
            so_far.counted,
            meets.met bad,
            count_from_apart (λ s. other s && has used s) (λ s. other s && has (bit_and image allowed) s) (λ s. other s && has (bit_or used (bit_and image allowed)) s) old_part new_part apart 0 set_width,
          );
      untaken =
          λ s in_taken.
          has_union used (bit_and image allowed) s
          ∙ ap₂ (λ (a b : Bool). a || b) (so_far.untaken s in_taken)
          (has_common image allowed s ∙ ap (λ (c : Bool). c && has allowed s) (has_by_overlap image s ∙ ap (λ (x : ℕ). eqb x 1) (overlap_comm (2 ^ s) image ∙ meets.apart s in_taken)));
    }
  where
    old_part : (s : ℕ) → (other s && has used s) ≡ true → (other s && has (bit_or used (bit_and image allowed)) s) ≡ true
    old_part s h =
        and_true_if_both (other s) (has (bit_or used (bit_and image allowed)) s) (and_left (other s) (has used s) h)
        (has_union used (bit_and image allowed) s ∙ or_true_if_left (has used s) (has (bit_and image allowed) s) (and_right (other s) (has used s) h))

    new_part : (s : ℕ) → (other s && has (bit_and image allowed) s) ≡ true → (other s && has (bit_or used (bit_and image allowed)) s) ≡ true
    new_part s h =
        and_true_if_both (other s) (has (bit_or used (bit_and image allowed)) s) (and_left (other s) (has (bit_and image allowed) s) h)
        (has_union used (bit_and image allowed) s ∙ or_true_if_right (has used s) (has (bit_and image allowed) s) (and_right (other s) (has (bit_and image allowed) s) h))

    apart : (s : ℕ) → (other s && has used s) ≡ true → (other s && has (bit_and image allowed) s) ≡ false
    apart s h = by_bit (has (bit_and image allowed) s) refl
      where
        by_bit : (c : Bool) → has (bit_and image allowed) s ≡ c → (other s && c) ≡ false
        by_bit true e =
            absurd
            (true≢false
            (sym (has_common (bit_and image allowed) used s ∙ and_true_if_both (has (bit_and image allowed) s) (has used s) e (and_right (other s) (has used s) h))
            ∙ ap (λ (x : ℕ). has x s) nothing
            ∙ has_empty s))
        by_bit false e = bool_cases (λ c. (c && false) ≡ false) refl refl (other s)

-- Nothing is needed at first
pub needed_none : {taken other : ℕ → Bool} (used : ℕ) → used ≡ 0 → Needed taken other used 0
needed_none used empty = record { counted = omega arith; untaken = λ s h. ap (λ (x : ℕ). has x s) empty ∙ has_empty s }

-- What is needed besides what is taken
pub needed_besides : {taken other : ℕ → Bool} {used found : ℕ} → Needed taken other used found → Within taken other → found + size taken ≤ size other
needed_besides {taken} {other} {used} {found} needed has_taken =
    omega (
      arith,
      needed.counted,
      count_from_apart taken (λ s. other s && has used s) other has_taken (λ s h. and_left (other s) (has used s) h)
          (λ s h. ap (λ (c : Bool). other s && c) (needed.untaken s h) ∙ bool_cases (λ c. (c && false) ≡ false) refl refl (other s)) 0 set_width,
    )

-- The images meet a set that is enough, and so do their sums
module _ (rows : List ℕ) (wanted allowed : ℕ) (wanted_small : wanted < 2 ^ set_width) (allowed_small : allowed < 2 ^ set_width) (taken other : ℕ → Bool) (total : ℕ) (images : List ℕ)
    (given : Images rows taken total images) (enough : Enough rows (has wanted) other) (within : Within other (λ s. taken s || has allowed s)) where
  pub image_meets : (i : ℕ) → i < total → Meets wanted allowed taken other (get_or images i 0)
  image_meets i h = meets rows wanted allowed taken other (get_or images i 0) wanted_small allowed_small (given.shown i h) (given.avoid i h) enough within

  pub sum_meets : (i j : ℕ) → i < total → j < total → Meets wanted allowed taken other (bit_xor (get_or images i 0) (get_or images j 0))
  sum_meets i j h k =
      meets rows wanted allowed taken other (bit_xor (get_or images i 0) (get_or images j 0)) wanted_small allowed_small
      (image_sum rows (get_or images i 0) (get_or images j 0) (given.shown i h) (given.shown j k))
      (λ s in_taken. overlap_xor_left (get_or images i 0) (get_or images j 0) (2 ^ s) ∙ ap₂ bit_xor (given.avoid i h s in_taken) (given.avoid j k s in_taken)) enough within
