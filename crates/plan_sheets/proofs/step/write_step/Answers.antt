-- `plan_sheets::step::write_step` meets its contract: three stores, by cases on the step. Assumes nothing.
use Rattle.std.proofs.Common.{◌∙◌, ◌+◌, ◌≤◌, length, arith}
use Rattle.plan_sheets.specs.PlanSheets.{steps_length}
use Rattle.plan_sheets.proofs.StepsWrittenLaws.{bytes_stored, step_stored}
use Rattle.plan_sheets.proofs.step.write_step.Goals as goal
use Rattle.plan_sheets.proofs.step.write_step.Goals.{in-Clear, in-Copy, in-Add}

pub returns : goal.returns
returns c =
    let a = c.args in
    let room : steps_length (a.number + 1) ≤ length a.buffer.now = omega (arith, c.requires.1.room) in
    elim c.match-step.branch [
      | in-Clear w ↦ rw w.kind-is (bytes_stored a.buffer.now a.number _ _ _ room ∙ step_stored a.buffer.now a.number a.step _ w.in-Clear.is)
      | in-Copy w ↦ rw w.kind-is (bytes_stored a.buffer.now a.number _ _ _ room ∙ step_stored a.buffer.now a.number a.step _ w.in-Copy.is)
      | in-Add w ↦ rw w.kind-is (bytes_stored a.buffer.now a.number _ _ _ room ∙ step_stored a.buffer.now a.number a.step _ w.in-Add.is)
    ]
