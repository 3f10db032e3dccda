-- The invariant of `fewest::reduce`: the images before the next are reduced.
use Prim.Native.Nat.{◌^◌}
use Rattle.bits.specs.Numerals.{numeral, numerals}
use Rattle.gf2.specs.InnerElimination.{reduce_pattern}
use Rattle.fewest.proofs.LoopLaws.{MappedTo}
use Rattle.fewest.proofs.reduce.Given as goal

abbrev pub invariant-loop-image : goal.invariant-loop-image
invariant-loop-image l = MappedTo (reduce_pattern (numeral l.pivot) (2 ^ l.element)) (numerals l.initial.image-items) l.image-index (numerals l.image-items)
