-- The invariant of `symbol_passes::sum`: what is summed and the sources from the next on make the whole sum.
use Rattle.std.proofs.Common.{◌≡◌, drop}
use Rattle.passes.specs.InnerSums.{summed_byte, symbol_bytes}
use Rattle.symbol_passes.proofs.sum.Given as goal

abbrev pub invariant-loop-s : goal.invariant-loop-s
invariant-loop-s l =
    summed_byte l.sum (symbol_bytes l.size l.stripe l.i (drop l.s-index l.sources)) ≡ summed_byte l.first (symbol_bytes l.size l.stripe l.i l.sources)
