-- Laws of back substitution, from the last row to the first. Assumes nothing.
use mathlib.Core.Path.{◌≡◌, sym, ap, ap₂, ◌∙◌}
use mathlib.Core.Bool.{true, false}
use mathlib.Core.List.{List, [], ◌∷◌}
use Prim.Native.Nat.{ℕ, suc, ◌+◌, ◌*◌, ◌^◌, ◌<◌}
use native.Mathlib.Nat.{pow-succ', mul-one, zero-mul}
use native.Mathlib.Omega.{arith}
use borrow.Author.Tests.{eqb-true}
use lib.Bits.{bit_xor, xor_zero_r}
use lib.Dec.{eqb}
use lib.ListN.{length, get_or, drop, drop_of_length-le}
use lib.Seq.{drop-cons}
use Rattle.bits.specs.BitSets.{with, overlap, scale}
use Rattle.bits.proofs.OverlapLaws.{even_if_not_odd}
use Rattle.bits.proofs.SetLaws.{with_lowest}
use Rattle.gf2.specs.InnerElimination.{reduce_row, back_substitute, residue}
use Rattle.gf2.proofs.EliminationLaws.{residue_step, residue_of_no_rows}

-- Back substitution has come down to row s: `subset` has the rows from s on that are taken out, and `left` is what they leave
pub record SubstitutedFrom (pivots rows : List ℕ) (row s subset left : ℕ) : Type 0 where
  pub is_subset : subset ≡ back_substitute (drop s pivots) (drop s rows) row * 2 ^ s
  pub is_left : left ≡ residue (drop s pivots) (drop s rows) row

module _ {pivots rows : List ℕ} (one_each : length pivots ≡ length rows) where
  -- At first no row is taken out
  pub substituted_none : (row s : ℕ) → s ≡ length rows → SubstitutedFrom pivots rows row s 0 row
  unfolding back_substitute
  substituted_none row s end =
      let no_pivot : drop s pivots ≡ [] = drop_of_length-le pivots {i = s} (omega arith) in
      let no_row : drop s rows ≡ [] = drop_of_length-le rows {i = s} (omega arith) in
      record {
        is_subset = sym (zero-mul (2 ^ s)) ∙ ap₂ (λ (ps rs : List ℕ). back_substitute ps rs row * 2 ^ s) (sym no_pivot) (sym no_row);
        is_left = sym (residue_of_no_rows row) ∙ ap₂ (λ (ps rs : List ℕ). residue ps rs row) (sym no_pivot) (sym no_row);
      }

  -- Row s, and behind it those from `later` on
  module _ {row s later subset left : ℕ} (behind : later ≡ suc s) (within : s < length rows)
      (substituted : SubstitutedFrom pivots rows row later subset left) where
    abbrev pivot : ℕ
    pivot = get_or pivots s 0

    abbrev later_subset : ℕ
    later_subset = back_substitute (drop later pivots) (drop later rows) row

    shifted : subset ≡ later_subset * 2 ^ suc s
    shifted = substituted.is_subset ∙ ap (λ (n : ℕ). later_subset * 2 ^ n) behind

    next : (list : List ℕ) → s < length list → drop s list ≡ get_or list s 0 ∷ drop later list
    next list here = drop-cons list s 0 here ∙ ap (λ (n : ℕ). get_or list s 0 ∷ drop n list) (sym behind)

    subset_step : back_substitute (drop s pivots) (drop s rows) row ≡ later_subset * 2 + overlap pivot left
    unfolding back_substitute
    subset_step =
        ap₂ (λ (ps rs : List ℕ). back_substitute ps rs row)
        (next pivots (omega arith)) (next rows within)
        ∙ ap (λ (v : ℕ). later_subset * 2 + overlap pivot v) (sym substituted.is_left)

    left_step : residue (drop s pivots) (drop s rows) row ≡ reduce_row pivot (get_or rows s 0) left
    left_step =
        ap₂ (λ (ps rs : List ℕ). residue ps rs row)
        (next pivots (omega arith)) (next rows within)
        ∙ residue_step pivot (drop later pivots) (get_or rows s 0) (drop later rows) row
        ∙ ap (reduce_row pivot (get_or rows s 0)) (sym substituted.is_left)

    -- A row whose pivot is odd on what is left is taken out
    pub substituted_odd : eqb (overlap (get_or pivots s 0) left) 1 ≡ true → {subset' : ℕ} → subset' ≡ with subset s
        → {left' : ℕ} → left' ≡ bit_xor left (get_or rows s 0) → SubstitutedFrom pivots rows row s subset' left'
    unfolding scale
    substituted_odd odd is_subset' is_left' =
        record {
          is_subset =
              is_subset'
              ∙ ap (λ (set : ℕ). with set s) shifted
              ∙ with_lowest later_subset s
              ∙ ap (λ (bit : ℕ). (later_subset * 2 + bit) * 2 ^ s) (sym is_odd)
              ∙ ap (λ (set : ℕ). set * 2 ^ s) (sym subset_step);
          is_left = is_left' ∙ ap (λ (bit : ℕ). bit_xor left (scale bit (get_or rows s 0))) (sym is_odd) ∙ sym left_step;
        }
      where
        is_odd : overlap pivot left ≡ 1
        is_odd = eqb-true (overlap pivot left) 1 odd

    -- Any other row stays
    pub substituted_even : eqb (overlap (get_or pivots s 0) left) 1 ≡ false → SubstitutedFrom pivots rows row s subset left
    unfolding scale
    substituted_even even =
        record {
          is_subset =
              shifted
              ∙ doubled later_subset s
              ∙ ap (λ (bit : ℕ). (later_subset * 2 + bit) * 2 ^ s) (sym is_even)
              ∙ ap (λ (set : ℕ). set * 2 ^ s) (sym subset_step);
          is_left = sym (xor_zero_r left) ∙ ap (λ (bit : ℕ). bit_xor left (scale bit (get_or rows s 0))) (sym is_even) ∙ sym left_step;
        }
      where
        is_even : overlap pivot left ≡ 0
        is_even = even_if_not_odd pivot left even

        doubled : (set bit : ℕ) → set * 2 ^ suc bit ≡ (set * 2 + 0) * 2 ^ bit
        doubled set bit = rw (pow-succ' 2 bit) (omega arith)

-- Down at the first row the subset is whole
pub substituted_all : {pivots rows : List ℕ} {row s subset left : ℕ} → s ≡ 0 → SubstitutedFrom pivots rows row s subset left → subset ≡ back_substitute pivots rows row
substituted_all {pivots} {rows} {row} none_left substituted =
    substituted.is_subset
    ∙ ap (λ (s : ℕ). back_substitute (drop s pivots) (drop s rows) row * 2 ^ s) none_left
    ∙ mul-one (back_substitute pivots rows row)
