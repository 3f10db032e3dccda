-- The invariant of `fewest::with_images`: so many symbols are needed for the images before the next.
use lib.ListN.{length}
use Rattle.bits.specs.Numerals.{numeral, numerals}
use Rattle.fewest.specs.InnerFewest.{MeetsEach, StillNeeded}
use Rattle.fewest.proofs.with_images.Given as goal

abbrev pub invariant-loop-image : goal.invariant-loop-image
invariant-loop-image l = StillNeeded (MeetsEach (numeral l.wanted) (numeral l.allowed) (length l.images) (numerals l.images)) l.initial.more l.more
