-- The invariant of `planvectors::floats_in`: its array has 64 floats.
use Rattle.std.proofs.Common.{◌≡◌, length}
use Rattle.planvectors.proofs.floats_in.Given as goal

abbrev pub invariant-loop-i : goal.invariant-loop-i
invariant-loop-i l = length l.floats ≡ 64
