-- What elimination says of the wanted symbols: a pattern that shows one of them out of reach, or a subset of the known rows for each.
use Rattle.std.specs.Prelude.{Bool, cond, List, [], ◌∷◌, ℕ, eqb, get_or}
use Rattle.bits.specs.Lists.{tabulate}
use Rattle.gf2.specs.InnerElimination.{pivot_for, back_substitute}

-- The first pattern that overlaps one of the targets' rows oddly, or 0
unfoldable pub odd_pattern : List ℕ → List ℕ → List ℕ → ℕ
odd_pattern patterns rows [] = 0
odd_pattern patterns rows (t ∷ targets) =
    let pattern = pivot_for patterns (get_or rows t 0) in
    cond (eqb pattern 0) (odd_pattern patterns rows targets) pattern

-- For each of the symbols that is wanted the subset of the known rows that the pivots take out of its row, and none for the others
abbrev pub wanted_subsets : List ℕ → List ℕ → List ℕ → ℕ → (ℕ → Bool) → List ℕ
wanted_subsets pivots surviving rows symbols wanted = tabulate symbols (λ t. cond (wanted t) (back_substitute pivots surviving (get_or rows t 0)) 0)
