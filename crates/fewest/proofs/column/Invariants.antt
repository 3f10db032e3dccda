-- The invariant of `fewest::column`: the rows before s have their bits in the column.
use Rattle.bits.specs.Numerals.{numeral, numerals}
use Rattle.fewest.proofs.LoopLaws.{ColumnTo}
use Rattle.fewest.proofs.column.Given as goal

abbrev pub invariant-loop-s : goal.invariant-loop-s
invariant-loop-s l = ColumnTo (numerals l.rows) l.bit l.s (numeral l.set)
