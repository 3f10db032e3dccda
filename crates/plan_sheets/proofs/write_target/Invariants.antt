-- The invariant of `plan_sheets::write_target`: the steps for the places passed are written, and those for the others remain.
use Prim.Native.Nat.{◌≤◌}
use lib.Dec.{eqb}
use Rattle.bits.specs.Numerals.{numeral}
use Rattle.plan_sheets.proofs.StepsWrittenLaws.{TargetRemaining}
use Rattle.plan_sheets.proofs.write_target.Given as goal

abbrev pub invariant-loop-source : goal.invariant-loop-source
invariant-loop-source l = (l.number ≤ l.next) × TargetRemaining l.target l.symbols (numeral l.subset) l.initial.buffer l.number l.buffer (eqb l.next l.number) l.next l.source
