-- `views::look_up` meets its contract: it is the part of the stripe or of the spare strip that `symbol_place` names. Assumes nothing.
use native.Mathlib.Omega.{arith}
use Rattle.strips.proofs.PartLaws.{part_shown}
use Rattle.views.proofs.PartLaws.{shows_there, begins_there}
use Rattle.views.proofs.look_up.Goals as goal

pub overflow_add-result : goal.overflow_add-result
overflow_add-result c =
    let in_spare = let args = c.args in shows_there args.stripe.now args.spare.now c.if-part.true c.symbol_place-part.ensures.shows in
    omega (arith, (in_spare).within)

pub slice_bounds-result-end : goal.slice_bounds-result-end
slice_bounds-result-end c =
    let in_spare = let args = c.args in shows_there args.stripe.now args.spare.now c.if-part.true c.symbol_place-part.ensures.shows in
    (in_spare).within

pub returns-then-part : goal.returns-then-part
returns-then-part c =
    let in_spare = let args = c.args in shows_there args.stripe.now args.spare.now c.if-part.true c.symbol_place-part.ensures.shows in
    let shown = part_shown (in_spare) in
    let args = c.args in
    let place = c.symbol_place-part in
    record { answer = shown.0; shown = shown.1; own = begins_there args.stripe.ref_ptr args.spare.ref_ptr place.result c.if-part.true place.ensures.answer }

pub overflow_add-result-2 : goal.overflow_add-result-2
overflow_add-result-2 c =
    let in_stripe = let args = c.args in shows_there args.stripe.now args.spare.now c.if-part.false c.symbol_place-part.ensures.shows in
    omega (arith, (in_stripe).within)

pub slice_bounds-result-end-2 : goal.slice_bounds-result-end-2
slice_bounds-result-end-2 c =
    let in_stripe = let args = c.args in shows_there args.stripe.now args.spare.now c.if-part.false c.symbol_place-part.ensures.shows in
    (in_stripe).within

pub returns : goal.returns
returns c =
    let in_stripe = let args = c.args in shows_there args.stripe.now args.spare.now c.if-part.false c.symbol_place-part.ensures.shows in
    let shown = part_shown (in_stripe) in
    let args = c.args in
    let place = c.symbol_place-part in
    record { answer = shown.0; shown = shown.1; own = begins_there args.stripe.ref_ptr args.spare.ref_ptr place.result c.if-part.false place.ensures.answer }
