-- The invariant of `code_sheets::rows::read_rows`: the rows stored so far are those of the sheet.
use Prim.Native.Nat.{◌≤◌}
use mathlib.Core.Path.{◌≡◌}
use Rattle.bits.specs.Lists.{tabulate}
use Rattle.bits.specs.Numerals.{numerals}
use Rattle.bits.proofs.PaddedLaws.{stored_to}
use Rattle.code_sheets.specs.CodeSheets.{row_in}
use Rattle.code_sheets.proofs.rows.read_rows.Given as goal

abbrev pub invariant-loop-s : goal.invariant-loop-s
invariant-loop-s l = (l.s ≤ l.symbols) × (numerals l.rows ≡ stored_to (tabulate l.symbols (row_in l.sheet)) l.s)
