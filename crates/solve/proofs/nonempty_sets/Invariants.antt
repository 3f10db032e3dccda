-- The invariant of `solve::nonempty_sets`: of the sets before the next those that are not empty are gathered.
use mathlib.Core.Path.{◌≡◌}
use Prim.Native.Nat.{◌≤◌}
use lib.ListN.{length, take}
use Rattle.bits.specs.Numerals.{numerals}
use Rattle.gf2.specs.InnerElimination.{nonempty}
use Rattle.solve.proofs.nonempty_sets.Given as goal

abbrev pub invariant-loop-set : goal.invariant-loop-set
invariant-loop-set l = record { few : length l.gathered.items ≤ l.set-index; so_far : numerals l.gathered.items ≡ nonempty (take l.set-index (numerals l.sets)) }
