-- `capi::navorzim_strip` meets its contract: it is `strip_place`. Assumes nothing.
use mathlib.Core.Path.{ap, ◌∙◌}
use lib.ListN.{length}
use Rattle.answers.proofs.AnswerLaws.{strip_slice_0, shows_out}
use Rattle.answers.specs.Answers.{out_part}
use Rattle.capi.proofs.navorzim_strip.Goals as goal

pub returns : goal.returns
returns c =
    let args = c.args in
    let place = c.strip_place in
    let told = c.from.ensures in
    let answer = told ∙ ap out_part place.ensures.answer in record { answer = answer; slice = strip_slice_0 args.sheet.now args.disk args.size (length args.stripe.now) answer; shows = shows_out told place.ensures.shows }
