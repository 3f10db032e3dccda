-- The invariant of `soundness::columns::first_nonzero`: the bytes passed are zero.
use Rattle.soundness.proofs.ByteLaws.{ZeroTo}
use Rattle.soundness.proofs.columns.first_nonzero.Given as goal

abbrev pub invariant-loop-i : goal.invariant-loop-i
invariant-loop-i l = ZeroTo l.bytes l.i
