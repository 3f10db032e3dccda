-- The invariant of `code_sheets::rows::write_rows`: the rows of the symbols passed are stored.
use Rattle.std.proofs.Common.{◌≡◌, length, take}
use Rattle.bits.specs.Numerals.{numerals}
use Rattle.sheets.specs.Buffers.{from_place}
use Rattle.code_sheets.specs.CodeSheets.{row_bytes}
use Rattle.code_sheets.proofs.rows.write_rows.Given as goal

abbrev pub invariant-loop-symbol : goal.invariant-loop-symbol
invariant-loop-symbol l = (length l.buffer ≡ length l.initial.buffer) × (l.buffer ≡ from_place 6 (row_bytes (take l.symbol (numerals l.rows))) l.initial.buffer)
