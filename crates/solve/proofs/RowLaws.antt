-- Laws of the rows' pivots and of the wanted symbols' subsets. Assumes nothing.
use mathlib.Core.Path.{◌≡◌, refl, sym, ap, subst}
use mathlib.Core.Bool.{Bool, cond}
use mathlib.Core.List.{List, [], ◌∷◌}
use Prim.Native.Nat.{ℕ, suc, ◌^◌, ◌<◌}
use native.Mathlib.Decide.{dec_lt}
use native.Mathlib.Omega.{arith}
use lib.ListN.{length, get_or, get_or-eq_default}
use lib.Pow.{pow_pos}
use Rattle.bits.proofs.Booleans.{bool_cases}
use Rattle.bits.proofs.ListLaws.{length_tabulate, get_or_tabulate}
use Rattle.gf2.specs.InnerElimination.{reduce_patterns, pivots, back_substitute}
use Rattle.gf2.proofs.EliminationLaws.{back_substitute_below}
use Rattle.solve.specs.InnerSolving.{wanted_subsets}

-- There is a pivot for each row
pub length_pivots : (patterns rows : List ℕ) → length (pivots patterns rows) ≡ length rows
unfolding pivots
length_pivots patterns [] = refl
length_pivots patterns (row ∷ rows) = ap suc (length_pivots (reduce_patterns patterns row) rows)

module _ (pivots surviving rows : List ℕ) (symbols : ℕ) (wanted : ℕ → Bool) where
  -- One subset for each symbol, wanted or not
  pub length_subsets : length (wanted_subsets pivots surviving rows symbols wanted) ≡ symbols
  length_subsets = length_tabulate symbols (λ t. cond (wanted t) (back_substitute pivots surviving (get_or rows t 0)) 0)

  -- The subset of a wanted symbol, and none for another
  pub get_or_subsets : (t : ℕ) → t < symbols
      → get_or (wanted_subsets pivots surviving rows symbols wanted) t 0 ≡ cond (wanted t) (back_substitute pivots surviving (get_or rows t 0)) 0
  get_or_subsets t h = get_or_tabulate symbols (λ u. cond (wanted u) (back_substitute pivots surviving (get_or rows u 0)) 0) t h

  -- Each is a subset of the rows
  pub subsets_below : (t : ℕ) → get_or (wanted_subsets pivots surviving rows symbols wanted) t 0 < 2 ^ length surviving
  subsets_below t = by_side (dec_lt t symbols)
    where
      none : 0 < 2 ^ length surviving
      none = pow_pos (length surviving)

      by_side : Dec (t < symbols) → get_or (wanted_subsets pivots surviving rows symbols wanted) t 0 < 2 ^ length surviving
      by_side (yes h) =
          subst (λ (subset : ℕ). subset < 2 ^ length surviving) (sym (get_or_subsets t h))
          (bool_cases (λ c. cond c (back_substitute pivots surviving (get_or rows t 0)) 0 < 2 ^ length surviving)
          (back_substitute_below pivots surviving (get_or rows t 0)) none (wanted t))
      by_side (no h) =
          subst (λ (subset : ℕ). subset < 2 ^ length surviving)
          (sym (get_or-eq_default (wanted_subsets pivots surviving rows symbols wanted) 0 {n = t} (omega (arith, length_subsets)))) none
