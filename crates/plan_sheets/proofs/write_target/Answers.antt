-- `plan_sheets::write_target` meets its contract. Assumes nothing.
use Rattle.std.proofs.Common.{◌≡◌, ◌≢◌, ℕ, ◌<◌, cond, refl, sym, ◌∙◌, eq-eqb, arith}
use lib.Dec.{eqb}
use borrow.Author.Tests.{ne_eqb}
use Rattle.bits.specs.Numerals.{numeral}
use Rattle.gf2.specs.declared.Step.{Step}
use Rattle.gf2.specs.declared.Step.TheVariants.{Copy, Add}
use Rattle.plan_sheets.proofs.StepsWrittenLaws.{target_all, target_step_fits, target_step, target_skip, target_clear_fits, target_clear, target_end, fill_names_below}
use Rattle.plan_sheets.proofs.write_target.Goals as goal
use Rattle.plan_sheets.proofs.write_target.Goals.{then-has, else-has, then-next-number, else-next-number}

-- The first step copies
is_first : (t s next number : ℕ) {step : Step} → next ≡ number → step ≡ Copy t s → step ≡ cond (eqb next number) (Copy t s) (Add t s)
is_first t s next number h e = e ∙ sym (simp (eq-eqb next number h))

-- and another adds
is_other : (t s next number : ℕ) {step : Step} → next ≢ number → step ≡ Add t s → step ≡ cond (eqb next number) (Copy t s) (Add t s)
is_other t s next number h e = e ∙ sym (simp (ne_eqb next number h))

pub loop-source-init : goal.loop-source-init
loop-source-init c =
    let a = c.args in (
      omega arith,
      rw (eq-eqb a.number a.number refl) (target_all a.target a.symbols (numeral a.subset) a.buffer.now a.number c.requires.2),
    )

pub write_step-requires : goal.write_step-requires
write_step-requires c =
    let loop = c.loop-source in
    let taken = c.loop-source-test.true in
    let source_to : loop.source < 256 = omega (arith, c.requires.1) in
    let has_it = sym c.has.ensures ∙ c.if-has.true in
    elim c.if-next-number.branch [
      | then-next-number w ↦
          let is = is_first c.args.target loop.source loop.next c.args.number w.if-next-number.true w.step-is in
          (fill_names_below 256 _ is c.requires.0 source_to, target_step_fits loop.invariant.1 taken has_it is)
      | else-next-number w ↦
          let is = is_other c.args.target loop.source loop.next c.args.number w.if-next-number.false w.step-is in
          (fill_names_below 256 _ is c.requires.0 source_to, target_step_fits loop.invariant.1 taken has_it is)
    ]

pub loop-source-preserved : goal.loop-source-preserved
loop-source-preserved c =
    let loop = c.loop-source in
    let taken = c.loop-source-test.true in
    elim c.if-has.branch [
      | then-has w ↦
          let has_it = sym c.has.ensures ∙ w.if-has.true in
          let no_more : c.if-has.next ≢ c.args.number = omega (arith, w.next-is, loop.invariant.0) in
          let written = w.buffer-is ∙ w.write_step.ensures in
          let later = ne_eqb c.if-has.next c.args.number no_more in
          elim w.if-next-number.branch [
            | then-next-number v ↦
                let is = is_first c.args.target loop.source loop.next c.args.number v.if-next-number.true v.step-is in
                (omega (arith, w.next-is, loop.invariant.0), target_step loop.invariant.1 taken has_it is written later w.next-is)
            | else-next-number v ↦
                let is = is_other c.args.target loop.source loop.next c.args.number v.if-next-number.false v.step-is in
                (omega (arith, w.next-is, loop.invariant.0), target_step loop.invariant.1 taken has_it is written later w.next-is)
          ]
      | else-has w ↦ rw (w.buffer-is, w.next-is) (loop.invariant.0, target_skip loop.invariant.1 taken (sym c.has.ensures ∙ w.if-has.false))
    ]

pub write_step-requires-then-next-number-2 : goal.write_step-requires-then-next-number-2
write_step-requires-then-next-number-2 c = (c.requires.0, target_clear_fits c.loop-source.invariant.1 c.loop-source-test.false (eq-eqb _ _ c.if-next-number-2.true))

pub returns-then-next-number-2 : goal.returns-then-next-number-2
returns-then-next-number-2 c =
    let ends = target_clear c.loop-source.invariant.1 c.loop-source-test.false (eq-eqb _ _ c.if-next-number-2.true) c.write_step-then-next-number-2.ensures in
    record { answer = ends.0; buffer = ends.1 }

pub returns-else-next-number-2 : goal.returns-else-next-number-2
returns-else-next-number-2 c =
    let ends = target_end c.loop-source.invariant.1 c.loop-source-test.false (ne_eqb _ _ c.if-next-number-2.false) in
    record { answer = ends.0; buffer = ends.1 }
