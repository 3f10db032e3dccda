-- The invariant of `symbol_passes::pass`: the bytes passed are summed, all others as they were.
use Rattle.std.proofs.Common.{◌≡◌, ℕ, List}
use Rattle.gf2.specs.Stripes.{symbol}
use Rattle.passes.specs.InnerSums.{summed}
use Rattle.passes.specs.InnerStarts.{Starts}
use Rattle.symbol_passes.proofs.LoopLaws.{symbol_to}
use Rattle.symbol_passes.proofs.pass.Given as goal

abbrev pub invariant-loop-i : goal.invariant-loop-i
invariant-loop-i g l =
    goal.F-IsAlwaysCallable g l.begin
    × ((start : List ℕ) → Starts (goal.F-post g l.begin) (symbol l.size l.initial.stripe l.target) (symbol l.size l.initial.stripe l.source) start
    → l.stripe ≡ symbol_to l.size l.initial.stripe l.target (summed l.size l.initial.stripe start l.sources) l.i)
