-- The invariant of `elimination::listed`: the sets before the next are in the list.
use mathlib.Core.Path.{◌≡◌}
use lib.ListN.{take}
use Rattle.elimination.proofs.listed.Given as goal

abbrev pub invariant-loop-set : goal.invariant-loop-set
invariant-loop-set l = l.list.items ≡ take l.set-index l.sets
