-- The invariant of `swaps::settle`: so many swaps have led from the start to these sets, and the cost is theirs.
use mathlib.Core.Path.{◌≡◌}
use Prim.Native.Nat.{◌≤◌}
use Rattle.bits.specs.Numerals.{numerals}
use Rattle.codes.specs.Layouts.{symbols_of}
use Rattle.swaps.specs.Swaps.{cost_of, AfterSwaps}
use Rattle.swaps.specs.InnerSwaps.{terms}
use Rattle.swaps.proofs.settle.Given as goal

abbrev pub invariant-loop-swaps : goal.invariant-loop-swaps
invariant-loop-swaps l = record {
  made : AfterSwaps (terms l.terms) (numerals l.initial.sets) l.swaps (numerals l.sets);
  cost_is : l.cost ≡ cost_of (terms l.terms) (numerals l.sets);
  near : l.from ≤ symbols_of l.terms.layout;
}
