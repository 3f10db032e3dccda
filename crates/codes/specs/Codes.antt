-- A code and its limits (document 01, "The array and its words").
use Rattle.bits.specs.Numerals.{numerals}
use Rattle.codes.specs.declared.Code.{Code}
pub use Rattle.codes.specs.LinearCodes.{LinearCode, symbols, matrix, no_code, WithinLimits, LayoutWithin}
unfoldable pub use Rattle.codes.specs.LinearCodes.{rows_of}

-- The code that a value of the program holds
abbrev pub linear : Code → LinearCode
linear code = record { layout = code.layout; data_symbols = code.data_symbols; rows = numerals code.rows }
