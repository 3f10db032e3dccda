-- `fewest::search` meets its contract: where it ends, and from its two branches. The measure is how many symbols may be taken. Assumes nothing.
use mathlib.Core.Path.{◌≡◌, sym, ap, ◌∙◌, subst}
use mathlib.Core.Bool.{Bool}
use mathlib.Core.List.{List}
use native.Mathlib.Omega.{arith}
use lib.Bits.{bit_and, bit_xor, xor_lt}
use lib.ListN.{length, get_or}
use lib.Pow.{pow-lt}
use Rattle.bits.specs.BitSets.{has, with}
use Rattle.bits.specs.Lists.{first_from}
use Rattle.bits.specs.Numerals.{set_width, numeral, numerals}
use Rattle.bits.proofs.BitSetLaws.{count_le}
use Rattle.bits.proofs.NumeralLaws.{get_or_numerals}
use Rattle.bits.proofs.SetLaws.{with_of_empty, with_below}
use Rattle.fewest.specs.InnerFewest.{Images, Searched, size}
use Rattle.fewest.proofs.SearchLaws.{count_is_size, without_smaller, searched_taken, searched_no_fewer, searched_nothing_left, searched_no_room, searched_too_many, element_shared, nothing_shared, searched_step, searched_stopped, counted_both}
use Prim.Native.Nat.{ℕ, ◌^◌, ◌<◌}
use Rattle.fewest.proofs.+search.Goals as goal

-- Images that are as many
same_count : {rows : List ℕ} {taken : ℕ → Bool} {images : List ℕ} (few many : ℕ) → few ≡ many → Images rows taken few images → Images rows taken many images
same_count {rows} {taken} {images} few many same = subst (λ (n : ℕ). Images rows taken n images) same

-- A set less the set of one symbol, which was made from the empty set, is the set less that symbol
taken_out : (allowed element : ℕ) {none unit left : ℕ} → none ≡ 0 → unit ≡ with none element → left ≡ bit_xor allowed unit → left ≡ bit_xor allowed (2 ^ element)
taken_out allowed element none_is unit_is left_is = left_is ∙ ap (bit_xor allowed) (unit_is ∙ ap (λ (x : ℕ). with x element) none_is ∙ with_of_empty element)

-- A set of the width less a symbol of the width is a set of the width
left_in_width : (allowed element : ℕ) {left : ℕ} → left ≡ bit_xor allowed (2 ^ element) → allowed < 2 ^ set_width → element < set_width → left < 2 ^ set_width
left_in_width allowed element left_is small in-width = subst (λ (x : ℕ). x < 2 ^ set_width) (sym left_is) (xor_lt set_width allowed (2 ^ element) small (pow-lt in-width))

-- Fewer symbols may be taken where the first that an image shares with them is left out
fewer_left : (images : List ℕ) (allowed at : ℕ) {image shared element left : ℕ} → element ≡ first_from (has shared) 0 set_width → shared ≡ bit_and image allowed
    → image ≡ get_or images at 0 → element < set_width → left ≡ bit_xor allowed (2 ^ element) → size (has left) < size (has allowed)
fewer_left images allowed at {element = element} is_first is_shared is_image in-width left_is =
    let inside = (element_shared images allowed at _ _ element is_first is_shared is_image in-width).1 in
    subst (λ (x : ℕ). size (has x) < size (has allowed)) (sym left_is) (without_smaller allowed element inside in-width)

pub returns-then-count-clause-searched : goal.returns-then-count-clause-searched
returns-then-count-clause-searched t c rows given =
    let pre = c.requires in
    searched_taken rows _ _ _ _ _ _ (c.spread.ensures rows _ given) (λ i h. c.in_default.ensures.none i (omega arith))
    (omega (arith, c.count.ensures ∙ count_is_size _ pre.2, c.count-in_default.ensures ∙ count_is_size _ pre.4, c.if-count.true))

pub returns-in_default-clause-searched : goal.returns-in_default-clause-searched
returns-in_default-clause-searched t c rows given =
    let pre = c.requires in
    searched_no_fewer rows _ _ _ _ _ _ (c.spread.ensures rows _ given) (λ i h. c.in_default.ensures.none i (omega arith))
    (omega (arith, c.count.ensures ∙ count_is_size _ pre.2, c.count-in_default.ensures ∙ count_is_size _ pre.4, c.if-count.false))

pub returns-then-element-ge-SET_WIDTH-clause-searched : goal.returns-then-element-ge-SET_WIDTH-clause-searched
returns-then-element-ge-SET_WIDTH-clause-searched t c rows given =
    let args = c.args in
    let spread = c.spread in
    let at = c.in-Some.at in
    let below : at < length c.args.images.now = omega (arith, c.in-Some.ensures.found.0) in
    let lowest = c.lowest_from-element in
    searched_nothing_left rows _ _ _ _ _ _ (spread.ensures rows _ given) at below c.in-Some.ensures.found.1
    (nothing_shared (numerals spread.new.images) (numeral args.allowed) at _ _ lowest.result lowest.ensures c.common.ensures (get_or_numerals spread.new.images at) c.requires.3 c.if-element-ge-SET_WIDTH.true)

pub overflow_add-count : goal.overflow_add-count
overflow_add-count t c = omega (arith, c.count-3.ensures, count_le set_width _ c.requires.2)

pub returns-then-count-2-clause-searched : goal.returns-then-count-2-clause-searched
returns-then-count-2-clause-searched t c rows given =
    let args = c.args in
    let pre = c.requires in
    let at = c.in-Some.at in
    let below : at < length c.args.images.now = omega (arith, c.in-Some.ensures.found.0) in
    searched_no_room rows _ _ _ _ _ _ (c.spread.ensures rows _ given) at below c.in-Some.ensures.found.1 pre.3 pre.2
    (omega (arith, c.count-2.ensures ∙ count_is_size _ pre.4, c.count-3.ensures ∙ count_is_size _ pre.2, c.if-count-2.true))

pub returns-then-count-symbols_needed-clause-searched : goal.returns-then-count-symbols_needed-clause-searched
returns-then-count-symbols_needed-clause-searched t c rows given =
    let pre = c.requires in
    searched_too_many rows _ _ _ _ c.symbols_needed.result (λ other. c.symbols_needed.ensures rows _ other (same_count _ (length c.spread.new.images) (omega arith) (c.spread.ensures rows _ given)))
    (omega (arith, c.count-4.ensures ∙ count_is_size _ pre.4, c.count-5.ensures ∙ count_is_size _ pre.2, c.if-count-symbols_needed.true))

pub returns-then-branchings-eq0-clause-searched : goal.returns-then-branchings-eq0-clause-searched
returns-then-branchings-eq0-clause-searched t c rows given = subst (Searched rows _ _ _ _ _) (sym c.if-branchings-eq0.true) (searched_stopped rows _ _ _ _)

pub search-one-requires : goal.search-one-requires
search-one-requires t c =
    let args = c.args in
    let pre = c.requires in
    let spread = c.spread in
    let at = c.in-Some.at in
    let image = get_or_numerals spread.new.images at in
    let lowest = c.lowest_from-element in
    let in-width = c.if-element-ge-SET_WIDTH.false in
    let left = taken_out _ _ c.empty.ensures c.with.ensures c.sum-left.ensures in (
      omega (arith, fewer_left (numerals spread.new.images) _ at lowest.ensures c.common.ensures image in-width left, c.decreases),
      (
        omega (arith, ap length c.copy_from_slice.ensures.after, c.spread.auto.images, c.reduce.auto.images, pre.0),
        pre.1,
        subst (λ (x : ℕ). x < 2 ^ set_width) (sym c.with-more.ensures) (with_below set_width (numeral args.taken) lowest.result pre.2 in-width),
        left_in_width _ _ left pre.3 in-width,
        pre.4,
      ),
    )

pub search-requires : goal.search-requires
search-requires t c =
    let args = c.args in
    let pre = c.requires in
    let spread = c.spread in
    let at = c.in-Some.at in
    let image = get_or_numerals spread.new.images at in
    let lowest = c.lowest_from-element in
    let in-width = c.if-element-ge-SET_WIDTH.false in
    let left = taken_out _ _ c.empty.ensures c.with.ensures c.sum-left.ensures in (
      omega (arith, fewer_left (numerals spread.new.images) _ at lowest.ensures c.common.ensures image in-width left, c.decreases),
      (
        omega arith,
        pre.1,
        pre.2,
        left_in_width _ _ left pre.3 in-width,
        c.search-one.ensures.small,
      ),
    )

pub returns-clause-counted : goal.returns-clause-counted
returns-clause-counted t c =
    let args = c.args in
    let spread = c.spread in
    let at = c.in-Some.at in
    let image = get_or_numerals spread.new.images at in
    let lowest = c.lowest_from-element in
    let in-width = c.if-element-ge-SET_WIDTH.false in
    let left = taken_out _ _ c.empty.ensures c.with.ensures c.sum-left.ensures in
    let one = c.search-one in
    counted_both args.branchings one.result.branchings c.search.result.branchings (size (has (numeral c.sum-left.result))) (size (has (numeral args.allowed)))
    (omega (arith, c.if-branchings-eq0.false)) (fewer_left (numerals spread.new.images) _ at lowest.ensures c.common.ensures image in-width left)
    one.ensures.counted c.search.ensures.counted

pub returns-clause-searched : goal.returns-clause-searched
returns-clause-searched t c rows given =
    let args = c.args in
    let spread = c.spread in
    let at = c.in-Some.at in
    let below : at < length c.args.images.now = omega (arith, c.in-Some.ensures.found.0) in
    let image = get_or_numerals spread.new.images at in
    let lowest = c.lowest_from-element in
    let in-width = c.if-element-ge-SET_WIDTH.false in
    let left = taken_out _ _ c.empty.ensures c.with.ensures c.sum-left.ensures in
    let total = length c.spread.new.images in
    let copied : c.copy_from_slice.new.self ≡ spread.new.images = c.copy_from_slice.ensures.after in
    let copies = ap length copied in
    searched_step (numerals spread.new.images) (numeral args.allowed) at _ _ lowest.result lowest.ensures c.common.ensures image
    rows (numeral args.wanted) (numeral args.taken) (numeral args.best) total (numerals c.reduce.new.images) (same_count _ total (omega arith) (spread.ensures rows _ given)) (omega arith) in-width
    (λ i h. rw copied at (c.reduce.ensures i (omega arith))) c.search.ensures.fewer c.with-more.ensures left
    (λ images. c.search-one.ensures.searched rows (same_count total _ (omega arith) images)) (c.search.ensures.searched rows)
