-- `fewest::fewest` meets its contract: the search from the columns, with nothing taken and all known symbols allowed. Assumes nothing.
use mathlib.Core.Path.{◌≡◌, sym, ap, ◌∙◌, subst}
use mathlib.Core.Bool.{Bool}
use mathlib.Core.List.{List}
use Prim.Native.Nat.{ℕ, ◌^◌, ◌<◌}
use native.Mathlib.Omega.{arith}
use lib.Bits.{bit_and}
use lib.ListN.{length, take}
use lib.Seq.{length-take-le}
use Rattle.bits.specs.declared.BitSet.{BitSet}
use Rattle.bits.specs.BitSets.{has}
use Rattle.bits.specs.Numerals.{set_width, numeral, numerals}
use Rattle.bits.proofs.Booleans.{or_true_if_left, or_true_if_right}
use Rattle.gf2.specs.InnerSubsetPlans.{survivors}
use Rattle.fewest.specs.InnerFewest.{Images, either}
use Rattle.fewest.proofs.FirstImageLaws.{fewest_by_involved}
use Rattle.fewest.proofs.SearchLaws.{cut_small, cut_same, fewest_of_array}
use Rattle.fewest.proofs.fewest.Goals as goal

pub search-found-requires : goal.search-found-requires
search-found-requires c =
    let args = c.args in
    let array = c.below-array.ensures in
    let survivors = c.common-survivors.ensures ∙ ap (bit_and (numeral args.known)) array in
    let targets = c.common-targets.ensures ∙ ap (bit_and (numeral args.wanted)) array in
    let survivors_small = subst (λ (x : ℕ). x < 2 ^ set_width) (sym survivors) (cut_small (numeral args.known) (length args.rows.now) c.requires.0) in (
      omega (arith, length-take-le c.len-count.result c.array-array.result (omega (arith, c.len-count.ensures.fits, c.array-array.ensures.whole)), c.len-count.ensures.fits),
      subst (λ (x : ℕ). x < 2 ^ set_width) (sym targets) (cut_small (numeral args.wanted) (length args.rows.now) c.requires.0),
      omega (arith, c.empty.ensures),
      survivors_small,
      survivors_small,
    )

pub returns : goal.returns
returns c =
    let args = c.args in
    let rows = numerals args.rows.now in
    let array = c.below-array.ensures in
    let common = c.common-survivors in
    let common2 = c.common-targets in
    let same_known = ap has (common.ensures ∙ ap (bit_and (numeral args.known)) array) ∙ cut_same (numeral args.known) (length args.rows.now) c.requires.0 c.requires.3 in
    let same_wanted = ap has (common2.ensures ∙ ap (bit_and (numeral args.wanted)) array) ∙ cut_same (numeral args.wanted) (length args.rows.now) c.requires.0 c.requires.4 in
    let involved = either (numeral common.result) (numeral common2.result) in
    let first = c.first_images-images in
    let count = c.len-count.result in
    let begins : take count c.array-array.result ≡ first.result.items = ap (λ (n : ℕ). take n c.array-array.result) c.len-count.ensures.value ∙ c.array-array.ensures.front in
    fewest_by_involved rows involved
    (λ s h. or_true_if_left (has (numeral common.result) s) (has (numeral common2.result) s) (ap (λ (set : ℕ → Bool). set s) same_known ∙ h))
    (λ s h. or_true_if_right (has (numeral common.result) s) (has (numeral common2.result) s) (ap (λ (set : ℕ → Bool). set s) same_wanted ∙ h))
    (fewest_of_array (survivors involved rows) (numeral args.known) (numeral args.wanted) _ _ _ _ args.branchings _ c.empty.ensures same_known same_wanted
    c.search-found.ensures.counted
    (c.search-found.ensures.searched (survivors involved rows)
    (subst (λ (x : ℕ). Images (survivors involved rows) (has x) (length (take count c.array-array.result)) (numerals (take count c.array-array.result))) (sym c.empty.ensures)
    (subst (λ (l : List BitSet). Images (survivors involved rows) (has 0) (length l) (numerals l)) (sym begins) first.ensures))))
