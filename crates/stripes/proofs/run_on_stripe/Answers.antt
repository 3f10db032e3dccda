-- `stripes::run_on_stripe` meets its contract. Assumes nothing.
use mathlib.Core.Path.{◌≡◌, ap, ◌∙◌, subst}
use Prim.Native.Nat.{◌+◌}
use native.Mathlib.Omega.{arith}
use lib.ListN.{length}
use Rattle.plan_sheets.specs.PlanSheets.{step_of}
use Rattle.stripes.proofs.PassLaws.{taken_behind_step}
use Rattle.stripes.proofs.RunLaws.{Remaining, remaining_all, next_fits, sources_within, remaining_pass, remaining_none}
use Rattle.stripes.proofs.run_on_stripe.Goals as goal

pub loop-number-init : goal.loop-number-init
loop-number-init c =
    let args = c.args in
    remaining_all args.size args.steps.now args.count args.stripe.now c.requires.0

pub step_at-step-requires : goal.step_at-step-requires
step_at-step-requires c = record { few = omega arith; room = omega (arith, c.requires.1.room) }

pub sources_next-sources-requires : goal.sources_next-sources-requires
sources_next-sources-requires c = (omega arith, c.requires.1)

pub do_pass-requires : goal.do_pass-requires
do_pass-requires c =
    let args = c.args in
    let loop = c.loop-number in
    let step = c.step_at-step in
    let sources = c.sources_next-sources in
    let decoded = c.from in
    let read = decoded.ensures ∙ ap step_of step.ensures in (
      next_fits args.size args.steps.now args.count args.stripe.now loop.stripe loop.number (omega arith) loop.invariant decoded.result read,
      sources_within args.size args.steps.now args.count args.stripe.now loop.stripe loop.number (omega arith) loop.invariant decoded.result read _ _
          (taken_behind_step args.steps.now args.count (loop.number + 1) step.result decoded.result _ _ decoded.ensures sources.ensures),
    )

pub loop-number-preserved : goal.loop-number-preserved
loop-number-preserved c =
    let args = c.args in
    let loop = c.loop-number in
    let step = c.step_at-step in
    let sources = c.sources_next-sources in
    let decoded = c.from in
    let next : loop.number + 1 + length sources.result.items ≡ loop.number + (1 + c.len.result) = omega (arith, c.len.ensures.value) in
    subst (Remaining args.size args.steps.now args.count args.stripe.now _) next
    (remaining_pass args.size args.steps.now args.count args.stripe.now loop.stripe loop.number (omega arith) loop.invariant decoded.result
    (decoded.ensures ∙ ap step_of step.ensures) _ _
    (taken_behind_step args.steps.now args.count (loop.number + 1) step.result decoded.result _ _ decoded.ensures sources.ensures)
    _ c.do_pass.ensures)

pub returns : goal.returns
returns c =
    let args = c.args in
    let loop = c.loop-number in
    remaining_none args.size args.steps.now args.count args.stripe.now loop.stripe loop.number (omega arith) loop.invariant
