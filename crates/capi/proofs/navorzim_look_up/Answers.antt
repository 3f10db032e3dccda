-- `capi::navorzim_look_up` meets its contract: it is `symbol_place`. Assumes nothing.
use mathlib.Core.Path.{ap, ◌∙◌}
use Rattle.answers.proofs.AnswerLaws.{shows_out_of_two}
use Rattle.answers.specs.Answers.{out_part}
use Rattle.capi.proofs.navorzim_look_up.Goals as goal

pub returns : goal.returns
returns c =
    let args = c.args in
    let place = c.symbol_place in
    let told = c.from.ensures in
    record { promised = record { goes_out = told ∙ ap out_part place.ensures.answer; shows = shows_out_of_two args.stripe.now args.spare.now told place.ensures.shows } }
