-- `capi::navorzim_encode` meets its contract: it is `encode`. Assumes nothing.
use mathlib.Core.Path.{ap, ◌∙◌}
use Rattle.answers.specs.Answers.{out_verdict}
use Rattle.capi.proofs.navorzim_encode.Goals as goal

pub returns : goal.returns
returns c =
    let encode = c.encode in
    record { answer = c.from.ensures ∙ ap out_verdict encode.ensures.answer; stripe = encode.ensures.stripe }
