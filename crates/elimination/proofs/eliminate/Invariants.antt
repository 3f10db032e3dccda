-- The invariant of `elimination::eliminate`: the rows before the next are taken in.
use mathlib.Core.Path.{◌≡◌}
use lib.ListN.{length}
use Rattle.bits.specs.Numerals.{numerals}
use Rattle.elimination.proofs.RowLaws.{EliminatedTo}
use Rattle.elimination.proofs.eliminate.Given as goal

abbrev pub invariant-loop-row : goal.invariant-loop-row
invariant-loop-row l = record {
  count : length l.pivots.items ≡ l.row-index;
  eliminated : EliminatedTo (numerals l.rows) (numerals l.initial.patterns) l.row-index (numerals l.patterns) (numerals l.pivots.items);
}
