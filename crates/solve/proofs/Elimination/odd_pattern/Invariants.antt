-- The invariant of `solve::Elimination::odd_pattern`: what is found in the rows to come is found in all.
use mathlib.Core.Path.{◌≡◌}
use lib.ListN.{length}
use Rattle.bits.specs.BitSets.{has}
use Rattle.bits.specs.Lists.{symbols_in}
use Rattle.bits.specs.Numerals.{numeral, numerals}
use Rattle.solve.specs.InnerSolving.{odd_pattern}
use Rattle.solve.proofs.OddPatternLaws.{odd_from}
use Rattle.solve.proofs.Elimination.odd_pattern.Given as goal

abbrev pub invariant-loop-s : goal.invariant-loop-s
invariant-loop-s l =
    let patterns = numerals l.self.remaining.items in
    odd_from patterns (numerals l.rows) (length l.rows) (has (numeral l.wanted)) l.s
    ≡ odd_pattern patterns (numerals l.rows) (symbols_in (has (numeral l.wanted)) 0 (length l.rows))
