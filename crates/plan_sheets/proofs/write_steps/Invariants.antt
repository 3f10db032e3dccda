-- The invariant of `plan_sheets::write_steps`: the steps for the symbols passed are written and their sources gathered, and those for the others
-- remain.
use Rattle.bits.specs.BitSets.{has}
use Rattle.bits.specs.Numerals.{numeral, numerals}
use Rattle.plan_sheets.proofs.StepsWrittenLaws.{PlanRemaining}
use Rattle.plan_sheets.proofs.write_steps.Given as goal

abbrev pub invariant-loop-target : goal.invariant-loop-target
invariant-loop-target l = PlanRemaining (numerals l.subsets) l.symbols (has (numeral l.wanted)) l.initial.buffer l.buffer (numeral l.sources) l.number l.target
