-- Laws of the rows taken one after the other, from the first row on. Assumes nothing.
use mathlib.Core.Path.{◌≡◌, refl, sym, ap, ap₂, ◌∙◌}
use mathlib.Core.List.{List, [], ◌∷◌, ◌++◌, append-nil}
use Prim.Native.Nat.{ℕ, ◌+◌, ◌≤◌, ◌<◌}
use native.Mathlib.Numerals.{add-one}
use lib.ListN.{length, get_or, drop, drop_of_length-le}
use lib.Seq.{drop-cons, append_snoc}
use Rattle.gf2.specs.InnerElimination.{pivot_for, reduce_patterns, remaining, pivots}

-- The rows before row s are taken in: `left` are the patterns after them, and `found` their pivots
pub record EliminatedTo (rows patterns : List ℕ) (s : ℕ) (left found : List ℕ) : Type 0 where
  pub remaining_ahead : remaining patterns rows ≡ remaining left (drop s rows)
  pub pivots_ahead : pivots patterns rows ≡ found ++ pivots left (drop s rows)

-- At first no row is taken in
pub eliminated_none : (rows patterns : List ℕ) → EliminatedTo rows patterns 0 patterns []
eliminated_none rows patterns = record { remaining_ahead = refl; pivots_ahead = refl }

module _ {rows patterns : List ℕ} {s : ℕ} {left found : List ℕ} (eliminated : EliminatedTo rows patterns s left found) where
  -- Row s taken in
  pub eliminated_next : s < length rows
      → {reduced : List ℕ} → reduced ≡ reduce_patterns left (get_or rows s 0) → {pivot : ℕ} → pivot ≡ pivot_for left (get_or rows s 0)
      → EliminatedTo rows patterns (s + 1) reduced (found ++ pivot ∷ [])
  unfolding remaining pivots
  eliminated_next within {reduced} is_reduced {pivot} is_pivot =
      let later = drop (s + 1) rows in
      let next : drop s rows ≡ get_or rows s 0 ∷ later = drop-cons rows s 0 within ∙ ap (λ (n : ℕ). get_or rows s 0 ∷ drop n rows) (sym (add-one s)) in
      record {
        remaining_ahead = eliminated.remaining_ahead ∙ ap (remaining left) next ∙ ap (λ (l : List ℕ). remaining l later) (sym is_reduced);
        pivots_ahead =
            eliminated.pivots_ahead
            ∙ ap (λ (l : List ℕ). found ++ pivots left l) next
            ∙ ap₂ (λ (p : ℕ) (l : List ℕ). found ++ p ∷ pivots l later) (sym is_pivot) (sym is_reduced)
            ∙ sym (append_snoc found pivot (pivots reduced later));
      }

  -- All rows taken in
  pub eliminated_all : length rows ≤ s → (left ≡ remaining patterns rows) × (found ≡ pivots patterns rows)
  unfolding remaining pivots
  eliminated_all all = (
    sym (eliminated.remaining_ahead ∙ ap (remaining left) none_ahead),
    sym (eliminated.pivots_ahead ∙ ap (λ (l : List ℕ). found ++ pivots left l) none_ahead ∙ append-nil found),
  )
    where
      none_ahead : drop s rows ≡ []
      none_ahead = drop_of_length-le rows {i = s} all
