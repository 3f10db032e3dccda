-- Laws of the loop that gathers the sets that are not empty. Assumes nothing.
use mathlib.Core.Path.{◌≡◌, refl, ap, ◌∙◌}
use mathlib.Core.Bool.{true, false}
use mathlib.Core.List.{List, [], ◌∷◌, ◌++◌, append-nil}
use Prim.Native.Nat.{ℕ, zero, suc, ◌+◌, ◌≤◌, ◌<◌}
use native.Mathlib.Omega.{arith}
use lib.Dec.{eqb}
use lib.ListN.{length, get_or, take}
use borrow.Author.Tests.{eqb-true, eqb-false}
use Rattle.bits.proofs.PushLaws.{take_next}
use Rattle.gf2.specs.InnerElimination.{nonempty}

nonempty_append : (xs ys : List ℕ) → nonempty (xs ++ ys) ≡ nonempty xs ++ nonempty ys
unfolding nonempty
nonempty_append [] ys = refl
nonempty_append (zero ∷ xs) ys = nonempty_append xs ys
nonempty_append (suc x ∷ xs) ys = ap (λ (l : List ℕ). suc x ∷ l) (nonempty_append xs ys)

-- No more are not 0 than there are
pub length_nonempty : (xs : List ℕ) → length (nonempty xs) ≤ length xs
unfolding nonempty
length_nonempty [] = omega arith
length_nonempty (zero ∷ xs) = omega (arith, length_nonempty xs)
length_nonempty (suc x ∷ xs) = omega (arith, length_nonempty xs)

module _ (xs : List ℕ) (s : ℕ) (within : s < length xs) where
  one_more : nonempty (take (s + 1) xs) ≡ nonempty (take s xs) ++ nonempty (get_or xs s 0 ∷ [])
  one_more = ap nonempty (take_next xs s within) ∙ nonempty_append (take s xs) (get_or xs s 0 ∷ [])

  -- A set that is empty is passed over
  pub gathered_passed : eqb (get_or xs s 0) 0 ≡ true → nonempty (take (s + 1) xs) ≡ nonempty (take s xs)
  unfolding nonempty
  gathered_passed empty =
      one_more ∙ ap (λ (x : ℕ). nonempty (take s xs) ++ nonempty (x ∷ [])) (eqb-true (get_or xs s 0) 0 empty) ∙ append-nil (nonempty (take s xs))

  -- One that is not empty comes behind the others
  pub gathered_more : eqb (get_or xs s 0) 0 ≡ false → nonempty (take (s + 1) xs) ≡ nonempty (take s xs) ++ get_or xs s 0 ∷ []
  unfolding nonempty
  gathered_more some = one_more ∙ ap (λ (l : List ℕ). nonempty (take s xs) ++ l) (kept (get_or xs s 0) (eqb-false (get_or xs s 0) 0 some))
    where
      kept : (x : ℕ) → (x ≡ 0 → ⊥) → nonempty (x ∷ []) ≡ x ∷ []
      kept zero not_zero = absurd (not_zero refl)
      kept (suc x) not_zero = refl
