-- The invariant of `stripes::sources_next`: the steps passed are adds of the sources to the target.
use Rattle.std.proofs.Common.{◌≡◌, ◌+◌}
use Rattle.fixed_lists.specs.FixedLists.{fixed_len}
use Rattle.stripes.specs.InnerPasses.{TakenIn}
use Rattle.stripes.proofs.sources_next.Given as goal

abbrev pub invariant-loop-number : goal.invariant-loop-number
invariant-loop-number l = (l.number ≡ l.from + fixed_len l.sources) × TakenIn l.steps l.count l.target l.from l.number l.sources.items
