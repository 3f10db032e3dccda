-- The invariant of `priced_planner::lost_lists::lost_disks`: the set has the disks asked about, and those away among the disks passed.
use mathlib.Core.Path.{◌≡◌}
use Prim.Native.Nat.{ℕ}
use Rattle.bits.specs.BitSets.{has}
use Rattle.bits.specs.Numerals.{numeral}
use Rattle.priced_planner.specs.PricedPlanner.{is_lost}
use Rattle.priced_planner.proofs.lost_lists.lost_disks.Given as goal

abbrev pub invariant-loop-disk : goal.invariant-loop-disk
invariant-loop-disk l = (d : ℕ) → has (numeral l.lost) d ≡ is_lost l.asked l.states l.disk d
