-- The invariant of `priced_planner::lost_lists::entries_of`: the entries so far, and the elements to come, are all elements.
use mathlib.Core.Path.{◌≡◌}
use mathlib.Core.List.{◌++◌}
use Prim.Native.Nat.{◌-◌, ◌≤◌}
use lib.ListN.{length}
use Rattle.bits.specs.BitSets.{has}
use Rattle.bits.specs.Lists.{symbols_in}
use Rattle.bits.specs.Numerals.{numeral}
use Rattle.priced_planner.proofs.lost_lists.entries_of.Given as goal

abbrev pub invariant-loop-number : goal.invariant-loop-number
invariant-loop-number l = record {
  few : length l.entries.items ≤ l.number;
  so_far : l.entries.items ++ symbols_in (has (numeral l.set)) l.number (l.bound - l.number) ≡ symbols_in (has (numeral l.set)) 0 l.bound;
}
