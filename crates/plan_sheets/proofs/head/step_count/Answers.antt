-- `plan_sheets::head::step_count` meets its contract: two bytes, where the step count stands. Assumes nothing.
use mathlib.Core.Path.{ap, ◌∙◌}
use native.Mathlib.Omega.{arith}
use Rattle.sheets.specs.Bytes.{two_bytes_at}
use Rattle.plan_sheets.proofs.head.step_count.Goals as goal

pub steps_at-requires : goal.steps_at-requires
steps_at-requires c = c.requires

pub two_bytes_at-requires : goal.two_bytes_at-requires
two_bytes_at-requires c = omega (arith, c.steps_at.ensures, c.requires)

pub returns : goal.returns
returns c = (c.two_bytes_at.ensures.0 ∙ ap (two_bytes_at c.args.plan.now) c.steps_at.ensures, c.two_bytes_at.ensures.1)
