-- `plan_sheets::step::step_at` meets its contract: the bytes are the step's. Assumes nothing.
use mathlib.Core.Path.{refl}
use Prim.Native.Nat.{◌*◌}
use Rattle.plan_sheets.proofs.ReadingLaws.{bytes_are_step}
use Rattle.plan_sheets.proofs.step.step_at.Goals as goal

pub returns : goal.returns
returns c =
    let args = c.args in
    bytes_are_step args.steps.now (3 * args.number) refl refl refl
