-- The invariant of `stripes::run_on_stripe`: all steps leave what those that remain leave of the stripe that is reached.
use Prim.Native.Nat.{◌-◌}
use Rattle.stripes.proofs.RunLaws.{Remaining}
use Rattle.stripes.proofs.run_on_stripe.Given as goal

abbrev pub invariant-loop-number : goal.invariant-loop-number
invariant-loop-number l = Remaining l.size l.steps l.count l.initial.stripe l.stripe l.number

abbrev pub decreases-loop-number : goal.decreases-loop-number
decreases-loop-number l = l.count - l.number
