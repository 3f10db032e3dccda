-- The measure and the invariant of `read_full`: how much room is left, and that no more is read than there was.
use Rattle.std.proofs.Common.{length, ◌-◌, ◌≤◌}
use Rattle.records.proofs.read_full.Given as goal

abbrev pub invariant-loop-got : goal.invariant-loop-got
invariant-loop-got g l = l.got ≤ length l.buffer

abbrev pub decreases-loop-got : goal.decreases-loop-got
decreases-loop-got g l = length l.initial.buffer - l.got
