-- The invariant of `soundness::columns::lowest_by_sums`: `lowest` is the lowest column in which one of the equations passed fails.
use mathlib.Core.Path.{◌≡◌}
use lib.ListN.{length, take}
use Rattle.bits.specs.Numerals.{numerals}
use Rattle.soundness.specs.InnerColumns.{LowestFailing}
use Rattle.soundness.proofs.columns.lowest_by_sums.Given as goal

abbrev pub invariant-loop-equation : goal.invariant-loop-equation
invariant-loop-equation l = (length l.sum ≡ l.size) × LowestFailing l.size l.symbols l.stripe (take l.equation-index (numerals l.equations)) l.lowest
