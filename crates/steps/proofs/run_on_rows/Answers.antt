-- `steps::run_on_rows` meets its contract. Assumes nothing.
use Rattle.std.proofs.Common.{◌≡◌, Err, sym, ◌∙◌}
use native.Mathlib.Nat.{sub-zero}
use Rattle.bits.specs.BitSets.{has}
use Rattle.bits.specs.Numerals.{numeral, numerals}
use Rattle.bits.proofs.NumeralLaws.{get_or_numerals, numerals_set}
use Rattle.plan_sheets.specs.PlanSheets.{sheet_steps}
use Rattle.plans.proofs.StepLaws.{remaining_all, remaining_first, remaining_next, remaining_refused, remaining_none}
use Rattle.steps.proofs.run_on_rows.Goals as goal

pub loop-number-init : goal.loop-number-init
loop-number-init c =
    let args = c.args in
    let loss = args.loss in
    rw (sub-zero, c.empty-sources.ensures) (remaining_all loss.symbols (has (numeral loss.wanted)) (numerals args.code_rows) (numeral loss.survivors) (sheet_steps args.count args.steps.now))

pub returns-in_default : goal.returns-in_default
returns-in_default c =
    let named : Err c.in_default.field-0 ≡ Err c.unwrap_err.result = sym c.in_default.is ∙ c.unwrap_err.ensures in
    let same : c.unwrap_err.result ≡ c.in_default.field-0 = cc in
    rw same (remaining_refused (remaining_first c.args.count c.args.steps.now c.loop-number.invariant c.loop-number-test.true) _ (sym c.in_default.ensures.answer))

pub loop-number-preserved : goal.loop-number-preserved
loop-number-preserved c =
    let loop = c.loop-number in
    let target = c.target-target in
    let source = c.source_of-source in
    let value = c.value_of in
    let reached = remaining_first c.args.count c.args.steps.now loop.invariant c.loop-number-test.true in
    rw (numerals_set loop.rows target.result value.result)
    (remaining_next reached (sym c.in-Ok.ensures.answer) c.requires.0 target.ensures source.ensures
    (rw (get_or_numerals loop.rows target.result, get_or_numerals loop.rows source.result) at value.ensures) c.with-known.ensures c.with-sources.ensures)

pub returns : goal.returns
returns c = remaining_none c.args.count c.args.steps.now c.loop-number.invariant c.loop-number-test.false
