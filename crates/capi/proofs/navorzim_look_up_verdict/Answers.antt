-- `capi::navorzim_look_up_verdict` meets its contract: it is `look_up_verdict`. Assumes nothing.
use mathlib.Core.Path.{ap, ◌∙◌}
use Rattle.answers.specs.Answers.{out_verdict}
use Rattle.capi.proofs.navorzim_look_up_verdict.Goals as goal

pub returns : goal.returns
returns c = record { answer = c.from.ensures ∙ ap out_verdict (c.look_up_verdict.ensures.answer) }
