-- `plan_sheets::write_steps` meets its contract. Assumes nothing.
use mathlib.Core.Path.{sym, ap, ◌∙◌, subst}
use Prim.Native.Nat.{ℕ}
use native.Mathlib.Omega.{arith}
use Rattle.bits.specs.BitSets.{has}
use Rattle.bits.specs.Numerals.{numeral, numerals}
use Rattle.bits.proofs.NumeralLaws.{get_or_numerals}
use Rattle.plan_sheets.proofs.StepsWrittenLaws.{PlanRemaining, plan_all, plan_fits, plan_next, plan_skip, plan_written, plan_told}
use Rattle.plan_sheets.proofs.write_steps.Goals as goal
use Rattle.plan_sheets.proofs.write_steps.Goals.{then-has, else-has}

pub loop-target-init : goal.loop-target-init
loop-target-init c =
    let a = c.args in
    subst (λ (sources : ℕ). PlanRemaining (numerals a.subsets) a.symbols (has (numeral a.wanted)) a.buffer.now a.buffer.now sources 0 0) (sym c.empty-sources.ensures)
    (plan_all (numerals a.subsets) a.symbols (has (numeral a.wanted)) a.buffer.now c.requires.fits)

pub has-requires : goal.has-requires
has-requires c = omega (arith, c.requires.symbols_to, c.loop-target-test.true)

pub offset_bounds-subsets-target : goal.offset_bounds-subsets-target
offset_bounds-subsets-target c = omega (arith, c.requires.symbols_to, c.loop-target-test.true)

pub bounds-subsets-target : goal.bounds-subsets-target
bounds-subsets-target c = omega (arith, c.requires.symbols_to, c.loop-target-test.true)

pub write_target-number-requires : goal.write_target-number-requires
write_target-number-requires c =
    let taken = c.loop-target-test.true in
    let is_wanted = sym c.has.ensures ∙ c.if-has.true in
    let reached = c.loop-target in (
      omega (arith, c.requires.symbols_to, taken),
      c.requires.symbols_to,
      plan_fits (has (numeral c.args.wanted)) reached.invariant taken is_wanted (get_or_numerals c.args.subsets reached.target),
    )

pub loop-target-preserved : goal.loop-target-preserved
loop-target-preserved c =
    let loop = c.loop-target in
    let taken = c.loop-target-test.true in
    let wanted = has (numeral c.args.wanted) in
    elim c.if-has.branch [
      | then-has w ↦
          plan_next wanted loop.invariant taken (sym c.has.ensures ∙ w.if-has.true) (get_or_numerals c.args.subsets loop.target) (c.requires.subsets_below loop.target)
          (w.buffer-is ∙ w.write_target-number.ensures.buffer) (ap numeral w.sources-is ∙ w.union-sources.ensures) (w.number-is ∙ w.write_target-number.ensures.answer)
      | else-has w ↦
          rw (w.buffer-is, ap numeral w.sources-is, w.number-is) (plan_skip wanted loop.invariant taken (sym c.has.ensures ∙ w.if-has.false))
    ]

pub returns : goal.returns
returns c =
    let wanted = has (numeral c.args.wanted) in
    let reached = c.loop-target.invariant in
    record { answer = plan_told wanted reached c.loop-target-test.false; buffer = (plan_written wanted reached c.loop-target-test.false).1 }
