-- Bytes searched for one that is not zero, and columns for one in which an equation fails.
use Rattle.std.specs.Prelude.{◌≡◌, List, ℕ, ◌≤◌, ◌<◌, length, get_or}
use Rattle.gf2.proofs.Columns.{column}
use Rattle.spans.specs.Equations.{MeetsAll}

-- The first byte that is not zero, or behind the last
pub record FirstNonzero (bytes : List ℕ) (first : ℕ) : Type 0 where
  pub within : first ≤ length bytes
  pub zero_before : (i : ℕ) → i < first → get_or bytes i 0 ≡ 0
  pub not_there : first < length bytes → get_or bytes first 0 ≡ 0 → ⊥

-- The lowest column of a stripe of so many symbols in which one of the equations fails, or L
pub record LowestFailing (L symbols : ℕ) (x equations : List ℕ) (lowest : ℕ) : Type 0 where
  pub within : lowest ≤ L
  pub met_before : (i : ℕ) → i < lowest → MeetsAll equations (column L symbols x i)
  pub fails_there : lowest < L → MeetsAll equations (column L symbols x lowest) → ⊥
