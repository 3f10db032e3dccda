-- Swaps (document 02, §14): "Each wanted symbol then has a set of survivors that XOR to it. A swap XORs one such set with one equation of §8's list ..
-- and is made only if it lowers the sum. The answer is settled exactly when no single swap lowers the sum, else stopped, after 1,024 swaps; which ones is
-- free."
use Rattle.std.specs.Prelude.{◌≡◌, Bool, true, false, List, [], ◌∷◌, ◌↔◌, ℕ, suc, ◌≤◌, ◌<◌, Float, length, get_or, set}
use Rattle.std.specs.Int.Bits.{bit_or, bit_xor}
use Rattle.std.specs.Float.Ieee.{lt}
use Rattle.bits.specs.BitSets.{has}
use Rattle.bits.specs.Numerals.{numeral}
use Rattle.bits.specs.declared.BitSet.{BitSet}
use Rattle.codes.specs.declared.Layout.{Layout}
use Rattle.prices.specs.Prices.{sum_of}
use Rattle.prices.specs.declared.DiskState.{DiskState}

-- The terms on which symbols are read: the array, the state of each disk, the equations among the survivors, and which symbols are wanted
pub record Terms : Type 0 where
  pub layout : Layout
  pub states : List DiskState
  pub equations : List ℕ
  pub wanted : ℕ → Bool

-- The terms by their parts
abbrev pub terms_of : Layout → List DiskState → List ℕ → BitSet → Terms
terms_of layout states equations wanted = record { layout = layout; states = states; equations = equations; wanted = has (numeral wanted) }

-- ------------------------------------------------------------------
-- Sets, one a symbol, and what they cost

-- The symbols that any of the sets has
unfoldable pub read_by : List ℕ → ℕ
read_by [] = 0
read_by (first ∷ sets) = bit_or first (read_by sets)

-- The sum for the symbols that the sets read
abbrev pub cost_of : Terms → List ℕ → Float
cost_of terms sets = sum_of terms.layout terms.states (has (read_by sets))

-- ------------------------------------------------------------------
-- Swaps

-- The sets after a swap: that of one symbol is XORed with one equation
abbrev pub swapped : Terms → List ℕ → ℕ → ℕ → List ℕ
swapped terms sets target equation = set sets target (bit_xor (get_or sets target 0) (get_or terms.equations equation 0))

-- Whether a swap lowers the sum
abbrev pub lowers : Terms → List ℕ → ℕ → ℕ → Bool
lowers terms sets target equation = lt (cost_of terms (swapped terms sets target equation)) (cost_of terms sets)

-- A swap is of a wanted symbol and an equation of the list, and is made only if it lowers the sum
pub record Made (terms : Terms) (sets : List ℕ) (target equation : ℕ) : Type 0 where
  pub of_wanted : terms.wanted target ≡ true
  pub of_list : equation < length terms.equations
  pub lower : lowers terms sets target equation ≡ true

-- So many swaps made one after the other, from the sets of the start on
pub data AfterSwaps (terms : Terms) (start : List ℕ) : ℕ → List ℕ → Type 0 where
  none : AfterSwaps terms start 0 start
  one_more : {swaps : ℕ} {sets : List ℕ} {target equation : ℕ} → AfterSwaps terms start swaps sets → Made terms sets target equation
      → AfterSwaps terms start (suc swaps) (swapped terms sets target equation)

-- No single swap lowers the sum
abbrev pub NoSwapLowers : Terms → List ℕ → Type 0
NoSwapLowers terms sets =
    (target equation : ℕ) → terms.wanted target ≡ true → equation < length terms.equations → lowers terms sets target equation ≡ false

-- ------------------------------------------------------------------
-- The answer

-- The most swaps
abbrev pub most_swaps : ℕ
most_swaps = 1024

-- What holds of the final sets, their sum, and of "settled" (true) or "stopped" (false)
pub record Settled (terms : Terms) (start final : List ℕ) (cost : Float) (swaps : ℕ) (settled : Bool) : Type 0 where
  pub made : AfterSwaps terms start swaps final
  pub at_most : swaps ≤ most_swaps
  pub cost_is : cost ≡ cost_of terms final
  -- never dearer than the start
  pub never_dearer : lt (cost_of terms start) cost ≡ false
  pub settled_exactly : (settled ≡ true) ↔ NoSwapLowers terms final
  pub stopped_after : settled ≡ false → swaps ≡ most_swaps
