-- The invariant of `steps::run_on_rows`: the verdict, the run, the places filled and the places read of all steps are those of the steps that remain,
-- from the state that is reached.
use Rattle.bits.specs.BitSets.{has}
use Rattle.bits.specs.Numerals.{numeral, numerals}
use Rattle.plan_sheets.specs.PlanSheets.{sheet_steps}
use Rattle.plan_sheets.proofs.ReadingLaws.{steps_from}
use Rattle.plans.proofs.StepLaws.{Remaining}
use Rattle.steps.proofs.run_on_rows.Given as goal

abbrev pub invariant-loop-number : goal.invariant-loop-number
invariant-loop-number l =
    Remaining l.symbols (has (numeral l.wanted)) (numerals l.initial.rows) (numeral l.initial.known) (sheet_steps l.count l.steps) (numerals l.rows) (numeral l.known) (numeral l.sources) l.number (steps_from l.count l.steps l.number)
