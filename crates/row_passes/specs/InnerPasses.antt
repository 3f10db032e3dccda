-- The passes that an encoded symbol is made in: each takes up to six data symbols of the row, in rising order.
use Rattle.std.specs.Prelude.{◌≡◌, true, List, ◌++◌, ℕ, ◌-◌, ◌≤◌, ◌<◌, Option, Some, None}
use Rattle.bits.specs.BitSets.{has}
use Rattle.bits.specs.Lists.{symbols_in}
use Rattle.bits.specs.Numerals.{set_width}
use Rattle.gf2.specs.Stripes.{SymbolWithin}

-- A number of a data symbol, and the symbol lies within so many bytes
abbrev pub DataSymbolFits : ℕ → ℕ → ℕ → Type 0
DataSymbolFits L bytes t = (t < set_width) × SymbolWithin L bytes t

-- A data symbol, where there is one, and K where there is none
abbrev pub next_or : ℕ → Option ℕ → ℕ
next_or data_symbols (Some next) = next
next_or data_symbols None = data_symbols

-- The data symbols of a row from one on are these sources and then those from `next` on, which is one of them or K
pub record Gathers (row data_symbols from : ℕ) (sources : List ℕ) (next : ℕ) : Type 0 where
  pub next_from : from ≤ next
  pub next_to : next ≤ data_symbols
  pub next_taken : next < data_symbols → has row next ≡ true
  pub rising : symbols_in (has row) from (data_symbols - from) ≡ sources ++ symbols_in (has row) next (data_symbols - next)
