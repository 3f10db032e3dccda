-- `capi::navorzim_strip_verdict` meets its contract: it is `strip_verdict`. Assumes nothing.
use mathlib.Core.Path.{ap, ◌∙◌}
use Rattle.answers.specs.Answers.{out_verdict}
use Rattle.capi.proofs.navorzim_strip_verdict.Goals as goal

pub returns : goal.returns
returns c = record { answer = c.from.ensures ∙ ap out_verdict (c.strip_verdict.ensures.answer) }
