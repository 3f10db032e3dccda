-- The invariant of both loops of `fewest::with_pairs`: what is needed with the sums so far still is.
use lib.ListN.{length}
use Rattle.bits.specs.Numerals.{numeral, numerals}
use Rattle.fewest.specs.InnerFewest.{MeetsEachSum, StillNeeded}
use Rattle.fewest.proofs.with_pairs.Given as goal

abbrev pub invariant-loop-other : goal.invariant-loop-other
invariant-loop-other l = StillNeeded (MeetsEachSum (numeral l.wanted) (numeral l.allowed) (length l.images) (numerals l.images)) l.initial.more l.more

abbrev pub invariant-loop-i : goal.invariant-loop-i
invariant-loop-i l = StillNeeded (MeetsEachSum (numeral l.wanted) (numeral l.allowed) (length l.images) (numerals l.images)) l.initial.more l.more
