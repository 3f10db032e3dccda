-- The invariant of `fewest::spread`: what held of the images holds.
use lib.ListN.{length}
use Rattle.bits.specs.Numerals.{numerals}
use Rattle.fewest.specs.InnerFewest.{KeepsImages}
use Rattle.fewest.proofs.spread.Given as goal

abbrev pub invariant-loop-i : goal.invariant-loop-i
invariant-loop-i l = KeepsImages (length l.initial.images) (numerals l.initial.images) (numerals l.images)
