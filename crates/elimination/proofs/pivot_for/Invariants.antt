-- The invariant of `elimination::pivot_for`: the pivot is among the patterns from the next on.
use mathlib.Core.Path.{◌≡◌}
use lib.ListN.{drop}
use Rattle.gf2.specs.InnerElimination.{pivot_for}
use Rattle.bits.specs.Numerals.{numeral, numerals}
use Rattle.elimination.proofs.pivot_for.Given as goal

abbrev pub invariant-loop-pattern : goal.invariant-loop-pattern
invariant-loop-pattern l = pivot_for (numerals l.patterns) (numeral l.row) ≡ pivot_for (drop l.pattern-index (numerals l.patterns)) (numeral l.row)
