-- The invariant of `part_passes::sum`: what is summed and the parts from the next on make the whole sum.
use Rattle.std.proofs.Common.{◌≡◌, map, drop}
use Rattle.passes.specs.InnerSums.{summed_byte, part_bytes}
use Rattle.part_passes.proofs.sum.Given as goal

abbrev pub invariant-loop-part : goal.invariant-loop-part
invariant-loop-part l =
    summed_byte l.sum (part_bytes l.i (drop l.part-index (map (λ part. part.now) l.parts))) ≡ summed_byte l.first (part_bytes l.i (map (λ part. part.now) l.parts))
