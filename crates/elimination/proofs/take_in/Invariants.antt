-- The invariant of `elimination::take_in`: the pass for the row has come to the next pattern.
use Rattle.bits.specs.Numerals.{numeral, numerals}
use Rattle.elimination.proofs.PivotLaws.{PassedTo}
use Rattle.elimination.proofs.take_in.Given as goal

abbrev pub invariant-loop-pattern : goal.invariant-loop-pattern
invariant-loop-pattern l = PassedTo (numerals l.initial.pattern-items) (numeral l.row) l.pattern-index (numeral l.pivot) (numerals l.pattern-items)
