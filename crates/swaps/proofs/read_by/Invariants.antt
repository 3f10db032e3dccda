-- The invariant of `swaps::read_by`: what is read so far and by the sets to come is what all read.
use mathlib.Core.Path.{◌≡◌}
use lib.Bits.{bit_or}
use lib.ListN.{drop}
use Rattle.bits.specs.Numerals.{numeral, numerals}
use Rattle.swaps.specs.Swaps.{read_by}
use Rattle.swaps.proofs.read_by.Given as goal

abbrev pub invariant-loop-set : goal.invariant-loop-set
invariant-loop-set l = bit_or (numeral l.read) (read_by (drop l.set-index (numerals l.sets))) ≡ read_by (numerals l.sets)
