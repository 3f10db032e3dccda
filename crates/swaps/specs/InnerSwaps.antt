-- What the search for a swap is handed, and what it answers.
use Rattle.std.specs.Prelude.{◌≡◌, Bool, true, false, List, ℕ, ◌≤◌, ◌<◌, Float, Option, Some, None, length, get_or}
use Rattle.std.specs.Int.Bits.{bit_or, bit_xor}
use Rattle.std.specs.Float.Ieee.{lt}
use Rattle.bits.specs.BitSets.{has}
use Rattle.bits.specs.Numerals.{numerals}
use Rattle.codes.specs.Layouts.{symbols_of}
use Rattle.prices.specs.Prices.{sum_of}
use Rattle.swaps.specs.Swaps.{Terms, terms_of, cost_of, lowers, Made, NoSwapLowers}
use Rattle.swaps.specs.declared.ReadingTerms.{ReadingTerms}
use Rattle.swaps.specs.declared.Swap.{Swap}

-- The terms that a value of the program holds
abbrev pub terms : ReadingTerms → Terms
terms held = terms_of held.layout held.states (numerals held.equations.items) held.wanted

-- Whether equation e lowers the sum below the cost: what is read is what the others read, and the symbol's own set with the equation
abbrev pub lowers_with : Terms → ℕ → ℕ → Float → ℕ → Bool
lowers_with terms others own cost e = lt (sum_of terms.layout terms.states (has (bit_or others (bit_xor own (get_or terms.equations e 0))))) cost

-- What a search needs: a set for each symbol of the array, and the sets' cost
pub record Searchable (terms : Terms) (sets : List ℕ) (cost : Float) : Type 0 where
  pub one_each : symbols_of terms.layout ≤ length sets
  pub cost_is : cost ≡ cost_of terms sets

-- A swap that may be made; or no swap of the symbols from `first` on and before `end` lowers the sum
abbrev pub LoweringAmong : Terms → List ℕ → ℕ → ℕ → Option Swap → Type 0
LoweringAmong terms sets first end (Some swap) = Made terms sets swap.target swap.equation
LoweringAmong terms sets first end None =
    (target equation : ℕ) → first ≤ target → target < end → terms.wanted target ≡ true → equation < length terms.equations
    → lowers terms sets target equation ≡ false

-- A swap that may be made, or none where none lowers the sum
abbrev pub Lowering : Terms → List ℕ → Option Swap → Type 0
Lowering terms sets (Some swap) = Made terms sets swap.target swap.equation
Lowering terms sets None = NoSwapLowers terms sets
