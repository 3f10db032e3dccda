-- What a contract sees of a list of at most so many values.
use Rattle.std.specs.Prelude.{ℕ, List, length}

-- The values, in order, and what stands in the places behind them
pub record FixedList (T : Type 0) : Type 0 where
  pub items : List T
  pub spare : List T

module _ {T : Type 0} where
  -- How many values there are
  abbrev pub fixed_len : FixedList T → ℕ
  fixed_len list = length list.items
