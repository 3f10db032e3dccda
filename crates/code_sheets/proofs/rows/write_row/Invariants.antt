-- The invariant of `code_sheets::rows::write_row`: the bytes passed are stored.
use mathlib.Core.Path.{◌≡◌}
use Prim.Native.Nat.{◌≤◌}
use lib.ListN.{length}
use lib.Seq.{paste}
use Rattle.bits.specs.Numerals.{numeral}
use Rattle.sheets.specs.Bytes.{low_bytes}
use Rattle.code_sheets.proofs.rows.write_row.Given as goal

abbrev pub invariant-loop-i : goal.invariant-loop-i
invariant-loop-i l = (l.i ≤ 8) × (length l.buffer ≡ length l.initial.buffer) × (l.buffer ≡ paste l.initial.buffer l.at (low_bytes 8 (numeral l.row)) l.i)
