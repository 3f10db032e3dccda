-- `fewest::first_images` meets its contract: the columns of the rows involved, spread, without the empty ones. Assumes nothing.
use mathlib.Core.Path.{◌≡◌, sym, ap, ◌∙◌, subst, fun_ext}
use mathlib.Core.Bool.{Bool}
use mathlib.Core.List.{List}
use Prim.Native.Nat.{ℕ, ◌<◌}
use native.Mathlib.Omega.{arith}
use lib.ListN.{length, get_or, take}
use Rattle.bits.specs.BitSets.{has}
use Rattle.bits.specs.Numerals.{numeral, numerals}
use Rattle.bits.specs.declared.BitSet.{BitSet}
use Rattle.bits.proofs.NumeralLaws.{length_numerals}
use Rattle.bits.proofs.SetLaws.{has_union}
use Rattle.gf2.specs.InnerSubsetPlans.{survivors}
use Rattle.gf2.proofs.PlanningLaws.{survivors_below}
use Rattle.fewest.specs.InnerFewest.{IsColumn, Images, either}
use Rattle.fewest.proofs.FirstImageLaws.{images_nonempty}
use Rattle.fewest.proofs.LoopLaws.{columns_images}
use Rattle.fewest.proofs.first_images.Goals as goal

pub returns : goal.returns
returns c =
    let args = c.args in
    let rows = numerals args.rows.now in
    let involved = either (numeral args.known) (numeral args.wanted) in
    let joined : has (numeral c.union.result) ≡ involved = ap has c.union.ensures ∙ fun_ext (has_union (numeral args.known) (numeral args.wanted)) in
    let cut : numerals c.as_slice.result.now ≡ survivors involved rows =
    ap numerals c.as_slice.ensures.value ∙ c.surviving_rows-involved.ensures ∙ ap (λ (known : ℕ → Bool). survivors known rows) joined in
    let columns = c.columns-columns in
    let width = args.data_symbols in
    let apart = c.spread.new.images in
    let first : Images (survivors involved rows) (has 0) width (numerals columns.result.items) =
    columns_images (survivors involved rows) width (numerals columns.result.items) (survivors_below width involved rows c.requires.2)
    (subst (λ (cut_rows : List ℕ). (i : ℕ) → i < width → IsColumn cut_rows i (get_or (numerals columns.result.items) i 0)) cut columns.ensures.columns) in
    let begins : take width c.array-array.result ≡ columns.result.items = ap (λ (n : ℕ). take n c.array-array.result) (sym columns.ensures.all) ∙ c.array-array.ensures.front in
    let all : length (take width c.array-array.result) ≡ width = ap length begins ∙ columns.ensures.all in
    let spread : Images (survivors involved rows) (has 0) (length (numerals apart)) (numerals apart) =
    subst (λ (count : ℕ). Images (survivors involved rows) (has 0) count (numerals apart)) (omega (arith, length_numerals apart, all))
    (c.spread.ensures (survivors involved rows) (has 0)
    (subst (λ (l : List BitSet). Images (survivors involved rows) (has 0) (length l) (numerals l)) (sym begins)
    (subst (λ (count : ℕ). Images (survivors involved rows) (has 0) count (numerals columns.result.items)) (sym columns.ensures.all) first))) in
    let gathered = c.nonempty_sets in
    subst (λ (count : ℕ). Images (survivors involved rows) (has 0) count (numerals gathered.result.items)) (length_numerals gathered.result.items)
    (subst (λ (l : List ℕ). Images (survivors involved rows) (has 0) (length l) l) (sym gathered.ensures) (images_nonempty (survivors involved rows) (has 0) (numerals apart) spread))
