-- The invariant of `part_passes::pass`: the bytes passed are summed, the others as they were.
use Rattle.std.proofs.Common.{◌≡◌, ℕ, List, map}
use Rattle.bits.proofs.StoreLaws.{overwritten}
use Rattle.passes.specs.InnerStarts.{Starts}
use Rattle.passes.specs.InnerSums.{summed_parts}
use Rattle.part_passes.proofs.pass.Given as goal

abbrev pub invariant-loop-i : goal.invariant-loop-i
invariant-loop-i g l =
    goal.F-IsAlwaysCallable g l.begin
    × ((start : List ℕ) → Starts (goal.F-post g l.begin) l.initial.target l.first start
    → l.target ≡ overwritten l.initial.target (summed_parts start (map (λ part. part.now) l.parts)) l.i)
