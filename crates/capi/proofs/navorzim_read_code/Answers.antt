-- `capi::navorzim_read_code` meets its contract: it is `read_code`, and the numbers of its code. Assumes nothing.
use Rattle.std.proofs.Common.{ap, ◌∙◌}
use Rattle.answers.specs.Answers.{out_code}
use Rattle.capi.proofs.navorzim_read_code.Goals as goal

pub returns : goal.returns
returns c = record { answer = c.from.ensures ∙ ap out_code c.read_code.ensures.answer }
