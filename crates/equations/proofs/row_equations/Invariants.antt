-- The invariant of `equations::row_equations`: the equations of the symbols before s are in the list.
use mathlib.Core.Path.{◌≡◌}
use lib.ListN.{length, take}
use Rattle.bits.specs.BitSets.{has}
use Rattle.bits.specs.Numerals.{numeral, numerals}
use Rattle.spans.specs.InnerSpans.{row_equations, unpivoted}
use Rattle.equations.proofs.row_equations.Given as goal

abbrev pub invariant-loop-s : goal.invariant-loop-s
invariant-loop-s l =
    let pivots = numerals l.eliminated.pivots.items in
    let surviving = l.eliminated.surviving.items in record {
      count : length l.equations.items ≡ l.s;
      so_far : numerals l.equations.items ≡ take l.s (row_equations pivots (numerals surviving) (length surviving) (unpivoted pivots (has (numeral l.known))));
    }
