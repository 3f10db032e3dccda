-- `stripes::sources_next` meets its contract. Assumes nothing.
use Rattle.std.proofs.Common.{[], ◌∷◌, ◌++◌, sym, ap, ◌∙◌, arith}
use Rattle.plan_sheets.specs.declared.step.SheetStep.{SheetStep}
use Rattle.stripes.specs.InnerPasses.{adds_other}
use Rattle.stripes.proofs.PassLaws.{taken_next}
use Rattle.stripes.proofs.sources_next.Goals as goal

pub loop-number-preserved : goal.loop-number-preserved
loop-number-preserved c =
    let args = c.args in
    let loop = c.loop-number in
    let read = c.step_at-step.ensures in (
      omega (arith, c.push.ensures.len, loop.invariant.0),
      taken_next args.steps.now args.count args.target args.from loop.number loop.sources.items _ (omega arith) loop.invariant.1
          (sym (ap (adds_other args.target) read) ∙ sym c.adds_other.ensures ∙ c.if-not-adds_other.false)
          (c.push.ensures.items ∙ ap (λ (s : SheetStep). loop.sources.items ++ (s.source ∷ [])) read),
    )
