-- The invariant of `soundness::columns::union_of`: where the union so far is empty, the bytes passed are zero.
use mathlib.Core.Path.{◌≡◌}
use Rattle.soundness.proofs.ByteLaws.{ZeroTo}
use Rattle.soundness.proofs.columns.union_of.Given as goal

abbrev pub invariant-loop-byte : goal.invariant-loop-byte
invariant-loop-byte l = l.all ≡ 0 → ZeroTo l.bytes l.byte-index
