-- The invariant of `fewest::next_image`: of the images before i one that has a wanted symbol, or none has one.
use Rattle.bits.specs.Numerals.{numeral, numerals}
use Rattle.fewest.proofs.LoopLaws.{NextTo}
use Rattle.fewest.proofs.next_image.Given as goal

abbrev pub invariant-loop-i : goal.invariant-loop-i
invariant-loop-i l = NextTo (numerals l.images) (numeral l.wanted) l.i l.next
