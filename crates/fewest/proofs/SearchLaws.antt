-- The search: what holds of its answer where it ends, and from its two branches. Assumes nothing.
use mathlib.Core.Path.{◌≡◌, refl, sym, ap, ◌∙◌, subst, fun_ext}
use mathlib.Core.Bool.{Bool, true, false, cond, not, ◌&&◌, ◌||◌, true≢false}
use mathlib.Core.List.{List}
use mathlib.Core.Logic.{◌⊎◌, inl, inr, ⊎_elim}
use Prim.Native.Nat.{ℕ, zero, suc, ◌+◌, ◌-◌, ◌^◌, ◌≤◌, ◌<◌}
use native.Mathlib.Nat.{pow-suc}
use native.Mathlib.Decide.{dec_le}
use native.Mathlib.Omega.{arith}
use lib.Bits.{bit_and, bit_xor, and_le_r}
use lib.Dec.{eqb, ltb}
use lib.ListN.{get_or}
use lib.Pow.{ones_lt, pow_mono, pow_pos}
use borrow.Author.Tests.{lt-ltb, eqb-true, eq-eqb}
use Rattle.bits.specs.BitSets.{has, with, below, count, overlap}
use Rattle.bits.specs.Lists.{count_from, first_from}
use Rattle.bits.specs.Numerals.{set_width}
use Rattle.bits.proofs.Booleans.{and_left, and_right, or_true_if_left, or_true_if_right}
use Rattle.bits.proofs.CountLaws.{count_from_within, count_is_count_from}
use Rattle.bits.proofs.SearchLaws.{first_from_holds, none_if_first_from_behind}
use Rattle.bits.proofs.SetLaws.{has_with, has_sum, has_unit, has_above, has_below, has_common, has_empty}
use Rattle.gf2.specs.InnerElimination.{reduce_pattern}
use Rattle.gf2.specs.Plans.{Within}
use Rattle.fewest.specs.InnerFewest.{Enough, size, Fewest, Avoids, Images, either, Searched}
use Rattle.fewest.proofs.ImageLaws.{odd_if_has, even_if_lacks, enough_with_more, enough_avoids_wanted, enough_if_all_avoid, images_taken}

-- ------------------------------------------------------------------
-- Sizes

-- A part that counts as many as the whole has all that the whole has
within_if_as_many : (part whole : ℕ → Bool) → Within part whole → (start count : ℕ) → count_from whole start count ≤ count_from part start count
    → (i : ℕ) → start ≤ i → i < start + count → whole i ≡ true → part i ≡ true
unfolding count_from
within_if_as_many part whole within start zero as_many i a b in_whole = absurd (omega arith)
within_if_as_many part whole within start (suc count) as_many i a b in_whole =
    by_place (dec_le i start) (count_from_within part whole within (suc start) count)
    (λ later above. within_if_as_many part whole within (suc start) count later i above (omega arith) in_whole) (part start) (whole start) refl refl as_many
  where
    by_place : Dec (i ≤ start) → count_from part (suc start) count ≤ count_from whole (suc start) count
        → (count_from whole (suc start) count ≤ count_from part (suc start) count → suc start ≤ i → part i ≡ true)
        → (p w : Bool) → part start ≡ p → whole start ≡ w
        → cond w 1 0 + count_from whole (suc start) count ≤ cond p 1 0 + count_from part (suc start) count → part i ≡ true
    by_place (yes here) later further true w e f more =
        let same : i ≡ start = omega arith in
        ap part same ∙ e
    by_place (yes here) later further false true e f more = absurd (omega arith)
    by_place (yes here) later further false false e f more =
        let same : i ≡ start = omega arith in
        absurd (true≢false (sym in_whole ∙ ap whole same ∙ f))
    by_place (no above) later further true true e f more = further (omega arith) (omega arith)
    by_place (no above) later further true false e f more = absurd (true≢false (sym (within start e) ∙ f))
    by_place (no above) later further false true e f more = absurd (omega arith)
    by_place (no above) later further false false e f more = further (omega arith) (omega arith)

-- The processor's count of a set is its size
pub count_is_size : (set : ℕ) → set < 2 ^ set_width → count set ≡ size (has set)
count_is_size set small = count_is_count_from set_width set small

-- ------------------------------------------------------------------
-- One symbol less that may be taken

-- The set without one of its elements
pub has_without : (set element s : ℕ) → has (bit_xor set (2 ^ element)) s ≡ cond (eqb s element) (not (has set s)) (has set s)
has_without set element s = has_sum set (2 ^ element) s ∙ ap (λ (c : Bool). cond c (not (has set s)) (has set s)) (has_unit element s)

module _ (set element : ℕ) (inside : has set element ≡ true) where
  -- It lacks the element
  pub without_lacks : has (bit_xor set (2 ^ element)) element ≡ false
  without_lacks =
      has_without set element element
      ∙ ap (λ (c : Bool). cond c (not (has set element)) (has set element)) (eq-eqb element element refl)
      ∙ ap not inside

  -- It has what the set has besides
  pub without_keeps : (s : ℕ) → eqb s element ≡ false → has (bit_xor set (2 ^ element)) s ≡ has set s
  without_keeps s other = has_without set element s ∙ ap (λ (c : Bool). cond c (not (has set s)) (has set s)) other

  -- It has nothing else
  pub without_within : Within (has (bit_xor set (2 ^ element))) (has set)
  without_within s h = by_place (eqb s element) refl
    where
      by_place : (c : Bool) → eqb s element ≡ c → has set s ≡ true
      by_place true e = ap (has set) (eqb-true s element e) ∙ inside
      by_place false e = sym (without_keeps s e) ∙ h

  -- It is smaller
  pub without_smaller : element < set_width → size (has (bit_xor set (2 ^ element))) < size (has set)
  without_smaller below = by_size (dec_le (size (has set)) (size (has (bit_xor set (2 ^ element)))))
    where
      by_size : Dec (size (has set) ≤ size (has (bit_xor set (2 ^ element)))) → size (has (bit_xor set (2 ^ element))) < size (has set)
      by_size (yes as_many) =
          absurd (true≢false (sym (within_if_as_many (has (bit_xor set (2 ^ element))) (has set) without_within 0 set_width as_many element (omega arith) (omega arith) inside) ∙ without_lacks))
      by_size (no fewer) = omega arith

-- ------------------------------------------------------------------
-- Where the search ends

module _ (rows : List ℕ) (wanted taken allowed best count : ℕ) (images : List ℕ) (given : Images rows (has taken) count images) where
  module _ (all_avoid : (i : ℕ) → i < count → Avoids (get_or images i 0) (has wanted)) where
    -- What is taken is enough, and fewer than before
    pub searched_taken : {left : ℕ} → size (has taken) ≤ size (has best) → Searched rows wanted taken allowed best taken left
    searched_taken fewer =
        record {
          good = inr ((λ s h. or_true_if_left (has taken s) (has allowed s) h), enough_if_all_avoid rows (has wanted) (has taken) count images given all_avoid);
          no_more = fewer;
          least = λ some other has_taken within enough. count_from_within (has taken) other has_taken 0 set_width;
        }

    -- or not fewer
    pub searched_no_fewer : {left : ℕ} → size (has best) ≤ size (has taken) → Searched rows wanted taken allowed best best left
    searched_no_fewer as_many =
        record {
          good = inl refl;
          no_more = omega arith;
          least = λ some other has_taken within enough. omega (arith, count_from_within (has taken) other has_taken 0 set_width);
        }

  module _ (at : ℕ) (at_below : at < count) (bad : Avoids (get_or images at 0) (has wanted) → ⊥) where
    -- A set that is enough meets an image that has a wanted symbol
    pub met : (other : ℕ → Bool) → Enough rows (has wanted) other → Avoids (get_or images at 0) other → ⊥
    met other enough avoids = bad (enough_avoids_wanted rows (has wanted) other (get_or images at 0) (given.shown at at_below) enough avoids)

    -- The image has no symbol that may be taken
    pub searched_nothing_left : {left : ℕ} → Avoids (get_or images at 0) (has allowed) → Searched rows wanted taken allowed best best left
    searched_nothing_left avoids_allowed =
        record {
          good = inl refl;
          no_more = omega arith;
          least = λ some other has_taken within enough. absurd (met other enough (λ s inside. by_side s (has taken s) refl (within s inside)));
        }
      where
        by_side : (s : ℕ) (c : Bool) → has taken s ≡ c → (c || has allowed s) ≡ true → overlap (get_or images at 0) (2 ^ s) ≡ 0
        by_side s true e h = given.avoid at at_below s e
        by_side s false e h = avoids_allowed s h

    -- One symbol more would not be fewer than before
    pub searched_no_room : {left : ℕ} → allowed < 2 ^ set_width → taken < 2 ^ set_width → size (has best) ≤ size (has taken) + 1 → Searched rows wanted taken allowed best best left
    searched_no_room allowed_small taken_small no_room =
        record {
          good = inl refl;
          no_more = omega arith;
          least = λ some other has_taken within enough. by_size other has_taken within enough (dec_le (size other) (size (has taken)));
        }
      where
        below_width : (set s : ℕ) → set < 2 ^ set_width → has set s ≡ true → s < set_width
        below_width set s small inside = by_side (dec_le set_width s)
          where
            by_side : Dec (set_width ≤ s) → s < set_width
            by_side (yes above) = absurd (true≢false (sym inside ∙ has_above set_width set s small above))
            by_side (no below) = omega arith

        inside_width : (s : ℕ) (c : Bool) → has taken s ≡ c → (c || has allowed s) ≡ true → s < set_width
        inside_width s true e h = below_width taken s taken_small e
        inside_width s false e h = below_width allowed s allowed_small h

        by_size : (other : ℕ → Bool) → Within (has taken) other → Within other (either taken allowed) → Enough rows (has wanted) other
            → Dec (size other ≤ size (has taken)) → size (has best) ≤ size other
        by_size other has_taken within enough (yes as_many) =
            absurd
            (met other enough
            (λ s inside.
            given.avoid at at_below s
            (within_if_as_many (has taken) other has_taken 0 set_width as_many s (omega arith) (inside_width s (has taken s) refl (within s inside)) inside)))
        by_size other has_taken within enough (no more) = omega arith

-- ------------------------------------------------------------------
-- The two branches: an element taken, or left out

pub searched_both : (rows : List ℕ) (wanted taken allowed best element one found one_left left : ℕ) → left ≤ one_left → has allowed element ≡ true
    → Searched rows wanted (with taken element) (bit_xor allowed (2 ^ element)) best one one_left → Searched rows wanted taken (bit_xor allowed (2 ^ element)) one found left
    → Searched rows wanted taken allowed best found left
searched_both rows wanted taken allowed best element one found one_left left fewer inside first second =
    record {
      good = ⊎_elim (λ same. by_first same first.good) (λ fresh. inr ((λ s h. widen s (has taken s) refl (fresh.0 s h)), fresh.1)) second.good;
      no_more = omega (arith, first.no_more, second.no_more);
      least = λ some other has_taken within enough. by_element some other has_taken within enough (other element) refl;
    }
  where
    rest : ℕ
    rest = bit_xor allowed (2 ^ element)

    -- What may be taken without the element may be taken
    widen : (s : ℕ) (c : Bool) → has taken s ≡ c → (c || has rest s) ≡ true → either taken allowed s ≡ true
    widen s true e h = or_true_if_left (has taken s) (has allowed s) e
    widen s false e h = or_true_if_right (has taken s) (has allowed s) (without_within allowed element inside s h)

    widen_taken : (s : ℕ) → either (with taken element) rest s ≡ true → either taken allowed s ≡ true
    widen_taken s h = by_place (eqb s element) refl (sym (ap (λ (c : Bool). c || has rest s) (has_with taken element s)) ∙ h)
      where
        by_place : (c : Bool) → eqb s element ≡ c → ((c || has taken s) || has rest s) ≡ true → either taken allowed s ≡ true
        by_place true e q = or_true_if_right (has taken s) (has allowed s) (ap (has allowed) (eqb-true s element e) ∙ inside)
        by_place false e q = widen s (has taken s) refl q

    by_first : found ≡ one → (one ≡ best) ⊎ (Within (has one) (either (with taken element) rest) × Enough rows (has wanted) (has one))
        → (found ≡ best) ⊎ (Within (has found) (either taken allowed) × Enough rows (has wanted) (has found))
    by_first same (inl before) = inl (same ∙ before)
    by_first same (inr fresh) = rw same (inr ((λ s h. widen_taken s (fresh.0 s h)), fresh.1))

    by_element : 1 ≤ left → (other : ℕ → Bool) → Within (has taken) other → Within other (either taken allowed) → Enough rows (has wanted) other
        → (c : Bool) → other element ≡ c → size (has found) ≤ size other
    by_element some other has_taken within enough true e =
        omega (arith, second.no_more, first.least (omega arith) other (λ s h. more s (eqb s element) refl (sym (has_with taken element s) ∙ h)) (λ s h. narrow s (eqb s element) refl (within s h)) enough)
      where
        more : (s : ℕ) (c : Bool) → eqb s element ≡ c → (c || has taken s) ≡ true → other s ≡ true
        more s true q h = ap other (eqb-true s element q) ∙ e
        more s false q h = has_taken s h

        narrow : (s : ℕ) (c : Bool) → eqb s element ≡ c → either taken allowed s ≡ true → either (with taken element) rest s ≡ true
        narrow s true q h = or_true_if_left (has (with taken element) s) (has rest s) (has_with taken element s ∙ ap (λ (c : Bool). c || has taken s) q)
        narrow s false q h =
            ap (λ (c : Bool). c || has rest s) (has_with taken element s ∙ ap (λ (c : Bool). c || has taken s) q)
            ∙ ap (λ (c : Bool). has taken s || c) (without_keeps allowed element inside s q)
            ∙ h
    by_element some other has_taken within enough false e = second.least some other has_taken (λ s h. narrow s h (eqb s element) refl (within s h)) enough
      where
        narrow : (s : ℕ) → other s ≡ true → (c : Bool) → eqb s element ≡ c → either taken allowed s ≡ true → either taken rest s ≡ true
        narrow s h true q in_either = absurd (true≢false (sym h ∙ ap other (eqb-true s element q) ∙ e))
        narrow s h false q in_either = ap (λ (c : Bool). has taken s || c) (without_keeps allowed element inside s q) ∙ in_either

-- ------------------------------------------------------------------
-- The whole search

pub fewest_if_searched : (rows : List ℕ) (wanted known found branchings left : ℕ) → branchings < left + 2 ^ size (has known) → Searched rows wanted 0 known known found left
    → Fewest rows (has known) (has wanted) branchings (has found)
fewest_if_searched rows wanted known found branchings left counted searched =
    record {
      within = ⊎_elim (λ same s h. sym (ap (λ (x : ℕ). has x s) same) ∙ h) (λ fresh s h. sym (without_zero s) ∙ fresh.0 s h) searched.good;
      enough = λ all. ⊎_elim (λ same. rw same all) (λ fresh. fresh.1) searched.good;
      otherwise =
          λ not-all.
          ⊎_elim (λ same s. ap (λ (x : ℕ). has x s) same)
          (λ fresh. absurd (not-all (enough_with_more rows (has wanted) (has found) (has known) (λ s h. sym (without_zero s) ∙ fresh.0 s h) fresh.1))) searched.good;
      least = λ enough_branchings other within enough. searched.least (omega arith) other (λ s h. absurd (true≢false (sym h ∙ has_empty s))) (λ s h. without_zero s ∙ within s h) enough;
    }
  where
    without_zero : (s : ℕ) → either 0 known s ≡ has known s
    without_zero s = ap (λ (c : Bool). c || has known s) (has_empty s)

-- ------------------------------------------------------------------
-- The next element

-- The first symbol that an image and a set share
pub shared_first : (image set element : ℕ) → element ≡ first_from (has (bit_and image set)) 0 set_width → element < set_width
    → (overlap image (2 ^ element) ≡ 1) × (has set element ≡ true)
shared_first image set element is_first below =
    let both : (has image element && has set element) ≡ true =
    sym (has_common image set element) ∙ ap (has (bit_and image set)) is_first ∙ first_from_holds (has (bit_and image set)) set_width 0 (omega arith) in
    (odd_if_has image element (and_left (has image element) (has set element) both), and_right (has image element) (has set element) both)

-- Where there is none the image avoids the set
pub avoids_if_none_first : (image set element : ℕ) → set < 2 ^ set_width → element ≡ first_from (has (bit_and image set)) 0 set_width → set_width ≤ element → Avoids image (has set)
avoids_if_none_first image set element small is_first none s inside = by_side (dec_le set_width s)
  where
    lacks : (c : Bool) → (c && has set s) ≡ false → c ≡ false
    lacks true e = absurd (true≢false (sym inside ∙ e))
    lacks false e = refl

    by_side : Dec (set_width ≤ s) → overlap image (2 ^ s) ≡ 0
    by_side (yes above) = absurd (true≢false (sym inside ∙ has_above set_width set s small above))
    by_side (no below) =
        even_if_lacks image s
        (lacks (has image s) (sym (has_common image set s) ∙ none_if_first_from_behind (has (bit_and image set)) set_width 0 s (omega arith) (omega arith) (omega arith)))

-- ------------------------------------------------------------------
-- One step of the search, as the code takes it

module _ (images : List ℕ) (allowed at image shared element : ℕ) (is_first : element ≡ first_from (has shared) 0 set_width) (is_shared : shared ≡ bit_and image allowed)
    (is_image : image ≡ get_or images at 0) where
  first_shared : element ≡ first_from (has (bit_and (get_or images at 0) allowed)) 0 set_width
  first_shared = is_first ∙ ap (λ (x : ℕ). first_from (has x) 0 set_width) (is_shared ∙ ap (λ (x : ℕ). bit_and x allowed) is_image)

  -- The image has the element, and it may be taken
  pub element_shared : element < set_width → (overlap (get_or images at 0) (2 ^ element) ≡ 1) × (has allowed element ≡ true)
  element_shared below = shared_first (get_or images at 0) allowed element first_shared below

  -- There is none
  pub nothing_shared : allowed < 2 ^ set_width → set_width ≤ element → Avoids (get_or images at 0) (has allowed)
  nothing_shared small none = avoids_if_none_first (get_or images at 0) allowed element small first_shared none

  -- What both branches found is what the search finds
  pub searched_step : (rows : List ℕ) (wanted taken best total : ℕ) (reduced : List ℕ) → Images rows (has taken) total images → at < total → element < set_width
      → ((i : ℕ) → i < total → get_or reduced i 0 ≡ reduce_pattern image (2 ^ element) (get_or images i 0))
      → {more rest one found one_left left : ℕ} → left ≤ one_left → more ≡ with taken element → rest ≡ bit_xor allowed (2 ^ element)
      → (Images rows (has more) total reduced → Searched rows wanted more rest best one one_left)
      → (Images rows (has taken) total images → Searched rows wanted taken rest one found left)
      → Searched rows wanted taken allowed best found left
  searched_step rows wanted taken best total reduced given at_below below are_reduced {more} {rest} {one} {found} {one_left} {left} fewer is_more is_left first second =
      let both = element_shared below in
      let taken_images : Images rows (has (with taken element)) total reduced =
      images_taken rows taken total images reduced given at at_below element both.0 (λ i h. are_reduced i h ∙ ap (λ (x : ℕ). reduce_pattern x (2 ^ element) (get_or images i 0)) is_image) in
      searched_both rows wanted taken allowed best element one found one_left left fewer both.1
      (subst (λ (x : ℕ). Searched rows wanted (with taken element) x best one one_left) is_left
      (subst (λ (x : ℕ). Searched rows wanted x rest best one one_left) is_more (first (subst (λ (x : ℕ). Images rows (has x) total reduced) (sym is_more) taken_images))))
      (subst (λ (x : ℕ). Searched rows wanted taken x one found left) is_left (second given))

-- ------------------------------------------------------------------
-- The symbols of the array

module _ (set symbols : ℕ) (fits : symbols ≤ set_width) where
  -- A set cut to the array's symbols is one of the width
  pub cut_small : bit_and set (below symbols) < 2 ^ set_width
  unfolding below
  cut_small = omega (arith, and_le_r set (2 ^ symbols - 1), ones_lt symbols, pow_mono fits)

  -- Nothing is cut off where all are the array's
  pub cut_same : ((s : ℕ) → has set s ≡ true → s < symbols) → has (bit_and set (below symbols)) ≡ has set
  cut_same inside = fun_ext (λ s. has_common set (below symbols) s ∙ ap (λ (c : Bool). has set s && c) (has_below symbols s) ∙ by_bit s (has set s) refl)
    where
      by_bit : (s : ℕ) (c : Bool) → has set s ≡ c → (c && ltb s symbols) ≡ c
      by_bit s true e = lt-ltb s symbols (inside s e)
      by_bit s false e = refl

-- What the search finds of the array's symbols
pub fewest_of_array : (rows : List ℕ) (known wanted survivors targets none found branchings left : ℕ) → none ≡ 0 → has survivors ≡ has known → has targets ≡ has wanted
    → branchings < left + 2 ^ size (has survivors) → Searched rows targets none survivors survivors found left → Fewest rows (has known) (has wanted) branchings (has found)
fewest_of_array rows known wanted survivors targets none found branchings left is_none same_known same_wanted counted searched =
    subst (λ (set : ℕ → Bool). Fewest rows set (has wanted) branchings (has found)) same_known
    (subst (λ (set : ℕ → Bool). Fewest rows (has survivors) set branchings (has found)) same_wanted
    (fewest_if_searched rows targets survivors found branchings left counted (subst (λ (x : ℕ). Searched rows targets x survivors survivors found left) is_none searched)))

-- ------------------------------------------------------------------
-- The bound

-- So many symbols are needed besides that none would be fewer than before
pub searched_too_many : (rows : List ℕ) (wanted taken allowed best needed : ℕ)
    → ((other : ℕ → Bool) → Enough rows (has wanted) other → Within other (either taken allowed) → Within (has taken) other → needed + size (has taken) ≤ size other)
    → size (has best) ≤ needed + size (has taken) → {left : ℕ} → Searched rows wanted taken allowed best best left
searched_too_many rows wanted taken allowed best needed bound enough_needed =
    record {
      good = inl refl;
      no_more = omega arith;
      least = λ some other has_taken within enough. omega (arith, bound other enough within has_taken);
    }

-- ------------------------------------------------------------------
-- Branchings

-- No branching is left
pub searched_stopped : (rows : List ℕ) (wanted taken allowed best : ℕ) → Searched rows wanted taken allowed best best 0
searched_stopped rows wanted taken allowed best = record { good = inl refl; no_more = omega arith; least = λ some. absurd (omega arith) }

-- Where the search ends, none was made
pub counted_none : (branchings a : ℕ) → branchings < branchings + 2 ^ a
counted_none branchings a = omega (arith, pow_pos a)

-- One, and those of two searches that may take fewer symbols
pub counted_both : (branchings one left fewer a : ℕ) → 1 ≤ branchings → fewer < a → branchings - 1 < one + 2 ^ fewer → one < left + 2 ^ fewer → branchings < left + 2 ^ a
counted_both branchings one left fewer a some less first second = omega (arith, pow-suc 2 fewer, pow_mono {i = suc fewer} {j = a} less)
