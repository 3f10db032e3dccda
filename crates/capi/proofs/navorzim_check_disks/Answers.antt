-- `capi::navorzim_check_disks` meets its contract: it is `check`, and what goes out tells acceptance. Assumes nothing.
use mathlib.Core.Path.{ap, ◌∙◌}
use Rattle.answers.proofs.AnswerLaws.{accepted_out_exactly}
use Rattle.answers.specs.Answers.{out_checked}
use Rattle.capi.proofs.navorzim_check_disks.Goals as goal

pub returns : goal.returns
returns c =
    let check = c.check in
    let told = c.from.ensures in
    record { answer = told ∙ ap out_checked check.ensures.answer; demand2 = accepted_out_exactly check.result told check.ensures.demand2 }
