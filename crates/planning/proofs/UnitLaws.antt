-- Planning eliminates from the units of the data symbols. With zeros behind them, as an array of all patterns would have, its pivots, the pattern that it
-- looks for and the patterns that are lost are the same. Assumes nothing.
use mathlib.Core.Path.{◌≡◌, refl, ap, ap₂}
use mathlib.Core.Bool.{Bool, cond}
use mathlib.Core.List.{List, [], ◌∷◌}
use Prim.Native.Nat.{ℕ}
use lib.Dec.{eqb}
use lib.ListN.{get_or}
use Rattle.bits.specs.Numerals.{padded}
use Rattle.codes.specs.Codes.{LinearCode}
use Rattle.gf2.specs.InnerElimination.{remaining, pivots, nonempty, units}
use Rattle.gf2.proofs.IdentityRowLaws.{pivot_for_alike_but_zeros, pivots_alike_but_zeros, pivots_padded, remaining_padded}
use Rattle.solve.specs.InnerSolving.{odd_pattern}
use Rattle.spans.specs.InnerSpans.{lost_patterns}
use Rattle.planning.specs.InnerPlan.{known_rows, patterns_left_by, pivots_from}

-- Patterns that differ in zeros alone have the same first one that is odd on a target's row
odd_pattern_alike_but_zeros : (patterns others rows targets : List ℕ) → nonempty patterns ≡ nonempty others
    → odd_pattern patterns rows targets ≡ odd_pattern others rows targets
unfolding odd_pattern
odd_pattern_alike_but_zeros patterns others rows [] same = refl
odd_pattern_alike_but_zeros patterns others rows (t ∷ targets) same =
    ap₂ (λ (pattern later : ℕ). cond (eqb pattern 0) later pattern) (pivot_for_alike_but_zeros patterns others (get_or rows t 0) same)
    (odd_pattern_alike_but_zeros patterns others rows targets same)

module _ (code : LinearCode) (known : ℕ → Bool) where
  -- The patterns that remain, with zeros behind the units
  abbrev pub left_of_padded : List ℕ
  left_of_padded = remaining (padded (units code.data_symbols)) (known_rows code known)

  -- They differ from planning's in zeros alone
  pub patterns_left_padded : nonempty left_of_padded ≡ nonempty (patterns_left_by code known)
  patterns_left_padded = remaining_padded (units code.data_symbols) (known_rows code known)

  -- The pivots are the same
  pub pivots_from_padded : pivots (padded (units code.data_symbols)) (known_rows code known) ≡ pivots_from code known
  pivots_from_padded = pivots_padded (units code.data_symbols) (known_rows code known)

  -- So is the first pattern that is odd on a target's row ..
  pub odd_pattern_padded : (rows targets : List ℕ) → odd_pattern left_of_padded rows targets ≡ odd_pattern (patterns_left_by code known) rows targets
  odd_pattern_padded rows targets = odd_pattern_alike_but_zeros left_of_padded (patterns_left_by code known) rows targets patterns_left_padded

  -- .. and the patterns that the wanted rows take
  pub lost_patterns_padded : (rows : List ℕ) → lost_patterns left_of_padded rows ≡ lost_patterns (patterns_left_by code known) rows
  lost_patterns_padded rows = ap nonempty (pivots_alike_but_zeros left_of_padded (patterns_left_by code known) rows patterns_left_padded)
