-- What elimination says beyond plans: the patterns that are lost with the wanted rows, and the equations among the surviving ones.
use Rattle.std.specs.Prelude.{◌≡◌, Bool, cond, ◌&&◌, List, ℕ, ◌^◌, ◌<◌, eqb, length, get_or}
use Rattle.std.specs.Int.Bits.{bit_xor}
use Rattle.bits.specs.BitSets.{overlap}
use Rattle.bits.specs.Lists.{tabulate}
use Rattle.gf2.specs.Selection.{select, Linear, Below}
use Rattle.gf2.specs.InnerElimination.{pivots, nonempty, back_substitute}
use Rattle.gf2.specs.InnerSubsetPlans.{survivors}

-- ------------------------------------------------------------------
-- Lost patterns

-- Of the patterns those that the rows take as their pivots
abbrev pub lost_patterns : List ℕ → List ℕ → List ℕ
lost_patterns patterns rows = nonempty (pivots patterns rows)

-- Two patterns overlap every row alike
abbrev pub AlikeOn : List ℕ → ℕ → ℕ → Type 0
AlikeOn rows x y = (j : ℕ) → overlap x (get_or rows j 0) ≡ overlap y (get_or rows j 0)

-- Exactly one subset of the patterns has a sum that overlaps every row as x does
pub record OneSubset (rows patterns : List ℕ) (x : ℕ) : Type 0 where
  pub subset : ℕ
  pub below : subset < 2 ^ length patterns
  pub alike : AlikeOn rows x (select patterns subset)
  pub only : (other : ℕ) → other < 2 ^ length patterns → AlikeOn rows x (select patterns other) → other ≡ subset

-- ------------------------------------------------------------------
-- Equations

-- The equation of row j: the subset that sums to it, and j itself. Of a row that has a pivot it is empty
abbrev pub equation_of : List ℕ → List ℕ → ℕ → ℕ
equation_of patterns rows j = bit_xor (back_substitute (pivots patterns rows) rows (get_or rows j 0)) (2 ^ j)

-- The equations of the chosen rows, and none for the others
abbrev pub row_equations : List ℕ → List ℕ → ℕ → (ℕ → Bool) → List ℕ
row_equations found surviving symbols chosen = tabulate symbols (λ j. cond (chosen j) (bit_xor (back_substitute found surviving (get_or surviving j 0)) (2 ^ j)) 0)

-- The known rows without a pivot: those with one have an empty equation
abbrev pub unpivoted : List ℕ → (ℕ → Bool) → ℕ → Bool
unpivoted found known j = known j && eqb (get_or found j 0) 0

-- The equations that elimination gives among the known ones of the rows
abbrev pub equations_of : List ℕ → (ℕ → Bool) → List ℕ → List ℕ
equations_of patterns known rows =
    let surviving = survivors known rows in
    let found = pivots patterns surviving in
    nonempty (row_equations found surviving (length rows) (unpivoted found known))

-- The values are what some linear map makes of the rows
pub record MadeFrom (rows values : List ℕ) : Type 0 where
  pub map_is : ℕ → ℕ
  pub linear : Linear map_is
  pub makes : (j : ℕ) → map_is (get_or rows j 0) ≡ get_or values j 0
  -- and it makes nothing wider than the values
  pub keeps_width : (width : ℕ) → Below width values → (v : ℕ) → map_is v < 2 ^ width
