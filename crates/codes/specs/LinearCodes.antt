-- A code by the numbers of its rows, and its limits (document 01, "The array and its words").
use Rattle.std.specs.Prelude.{ℕ, ◌^◌, ◌≤◌, ◌<◌, ◌≡◌, List, length, get_or, take, replicate}
use Rattle.bits.specs.Numerals.{set_width, padded}
use Rattle.bits.specs.Lists.{tabulate}
use Rattle.codes.specs.declared.Layout.{Layout}
use Rattle.codes.specs.Layouts.{symbols_of}

-- The rows of so many symbols as a code holds them: those behind the last symbol are empty
unfoldable pub rows_of : ℕ → (ℕ → ℕ) → List ℕ
rows_of count row = padded (tabulate count row)

-- A code by the numbers of its rows, whatever holds them: what is said of a code is said of this
pub record LinearCode : Type 0 where
  pub layout : Layout
  pub data_symbols : ℕ
  pub rows : List ℕ

-- N, the number of symbols
abbrev pub symbols : LinearCode → ℕ
symbols code = symbols_of code.layout

-- The N rows of the generator matrix
abbrev pub matrix : LinearCode → List ℕ
matrix code = take (symbols code) code.rows

-- No array: what stands for a code where none was read
abbrev pub no_code : LinearCode
no_code = record { layout = record { disks = 0; height = 0 }; data_symbols = 0; rows = replicate set_width 0 }

-- n is 2 to 64, r 1 to 32, N at most 64, K 1 to 64; each row has K bits. Rows behind the last symbol are empty
pub record WithinLimits (code : LinearCode) : Type 0 where
  pub disks_from : 2 ≤ code.layout.disks
  pub disks_to : code.layout.disks ≤ 64
  pub height_from : 1 ≤ code.layout.height
  pub height_to : code.layout.height ≤ 32
  pub symbols_to : symbols code ≤ 64
  pub data_from : 1 ≤ code.data_symbols
  pub data_to : code.data_symbols ≤ 64
  pub rows_held : length code.rows ≡ set_width
  pub rows_below : (s : ℕ) → get_or code.rows s 0 < 2 ^ code.data_symbols
  pub rows_behind : (s : ℕ) → symbols code ≤ s → get_or code.rows s 0 ≡ 0

-- An array within the limits, whose symbols a set can hold
pub record LayoutWithin (layout : Layout) : Type 0 where
  pub disks_to : layout.disks ≤ 64
  pub height_from : 1 ≤ layout.height
  pub height_to : layout.height ≤ 32
  pub symbols_to : symbols_of layout ≤ set_width
