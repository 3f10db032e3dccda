-- `capi::navorzim_rebuild_disks` meets its contract: it is `rebuild`, and number 0 says that nothing was refused. Assumes nothing.
use mathlib.Core.Path.{ap, ◌∙◌}
use Rattle.answers.proofs.AnswerLaws.{number_0_is_fine}
use Rattle.answers.specs.Answers.{out_verdict}
use Rattle.capi.proofs.navorzim_rebuild_disks.Goals as goal

pub returns : goal.returns
returns c =
    let rebuild = c.rebuild in record { answer = c.from.ensures ∙ ap out_verdict rebuild.ensures.answer; stripe = rebuild.ensures.stripe; restored = λ e. rebuild.ensures.restored (number_0_is_fine rebuild.result c.from.ensures e) }
