-- Whether the survivors can be sound (document 02, §8): "answer yes exactly if some valid stripe agrees on every surviving byte. A no names the lowest
-- byte column within a symbol for which none exists."
use Rattle.std.specs.Prelude.{◌≡◌, Bool, true, List, ℕ, ◌+◌, ◌*◌, ◌<◌, get_or}
use Rattle.gf2.specs.Stripes.{Valid, SameSymbols}

-- Some valid stripe agrees on every known byte
pub record SomeValidAgrees (L data_symbols : ℕ) (rows : List ℕ) (known : ℕ → Bool) (x : List ℕ) : Type 0 where
  pub stripe : List ℕ
  pub valid : Valid L data_symbols rows stripe
  pub agrees : SameSymbols L known stripe x

-- Some valid stripe agrees on byte i of every known symbol
pub record SomeAgreesInColumn (L data_symbols : ℕ) (rows : List ℕ) (known : ℕ → Bool) (x : List ℕ) (i : ℕ) : Type 0 where
  pub stripe : List ℕ
  pub valid : Valid L data_symbols rows stripe
  pub agrees : (s : ℕ) → known s ≡ true → get_or stripe (s * L + i) 0 ≡ get_or x (s * L + i) 0

-- The lowest byte column within a symbol for which none exists; and so none agrees on every known byte
pub record LowestWithoutAgreement (L data_symbols : ℕ) (rows : List ℕ) (known : ℕ → Bool) (x : List ℕ) (column : ℕ) : Type 0 where
  pub within_symbol : column < L
  pub none_there : SomeAgreesInColumn L data_symbols rows known x column → ⊥
  pub some_before : (i : ℕ) → i < column → SomeAgreesInColumn L data_symbols rows known x i
  pub none_agrees : SomeValidAgrees L data_symbols rows known x → ⊥
