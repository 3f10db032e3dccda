-- `strips::strip` meets its contract: it is the part of the stripe that `strip_place` names. Assumes nothing.
use native.Mathlib.Omega.{arith}
use Rattle.strips.proofs.PartLaws.{part_shown, begins_in_one}
use Rattle.strips.proofs.strip.Goals as goal

pub overflow_add-end : goal.overflow_add-end
overflow_add-end c = omega (arith, c.strip_place-part.ensures.shows.within)

pub slice_bounds-result-end : goal.slice_bounds-result-end
slice_bounds-result-end c = omega (arith, c.strip_place-part.ensures.shows.within)

pub returns : goal.returns
returns c =
    let place = c.strip_place-part in
    let shown = part_shown place.ensures.shows in
    record { answer = shown.0; shown = shown.1; own = begins_in_one c.args.stripe.ref_ptr place.result place.ensures.answer }
