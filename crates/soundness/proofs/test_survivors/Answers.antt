-- `soundness::test_survivors` meets its contract: the refusal, or what the equations say. Assumes nothing.
use mathlib.Core.Path.{refl, sym, ap, ◌∙◌}
use lib.ListN.{length}
use Rattle.std.specs.Prelude.{Ok, Err}
use Rattle.std.proofs.lemmas.Result.{err_from_is_err_and}
use Rattle.refusals.specs.Orders.{Gives, Fine, outcome}
use Rattle.refusals.proofs.OrderLaws.{refusal_stands}
use Rattle.code_sheets.specs.CodeReading.{as_read}
use Rattle.soundness.proofs.CallLaws.{test_fine, promised_if_fine, promised_if_refused}
use Rattle.soundness.specs.Survivors.{as_said, test_faults}
use Rattle.soundness.proofs.test_survivors.Goals as goal

pub returns-in_err-code : goal.returns-in_err-code
returns-in_err-code c =
    let args = c.args in
    let p = err_from_is_err_and c.from_residual.result c.from_residual.ensures.1 in
    let read = as_read (Err c.in_err-code.field-0.0) in
    let promised =
    promised_if_refused args.sheet.now args.disks.now read c.in_err-code.ensures.answer args.size args.stripe.now
    (sym (refusal_stands _ (test_faults read.code.layout args.disks.now args.size (length args.stripe.now)))) _ refl in
    rw (p.1, p.2) (record { refusal = promised.refusal; says = promised.says; exactly = promised.exactly })

pub returns-in_err-survivors_test : goal.returns-in_err-survivors_test
returns-in_err-survivors_test c =
    let args = c.args in
    let p = err_from_is_err_and c.from_residual-in_err-survivors_test.result c.from_residual-in_err-survivors_test.ensures.1 in
    let promised =
    promised_if_refused args.sheet.now args.disks.now (as_read (Ok c.in_ok-code.code)) c.in_ok-code.ensures.answer args.size args.stripe.now c.survivors_test.ensures
    _ (ap outcome c.in_err-survivors_test.was) in
    rw (p.1, p.2) (record { refusal = promised.refusal; says = promised.says; exactly = promised.exactly })

pub test_by_equations-requires : goal.test_by_equations-requires
test_by_equations-requires c =
    let args = c.args in
    let testable =
    test_fine c.in_ok-code.code.layout args.disks.now args.size (length args.stripe.now) Fine (sym c.survivors_test.ensures ∙ ap outcome c.in_ok-survivors_test.was) in
    (testable.disks_good, testable.size_to, testable.whole)

pub returns : goal.returns
returns c =
    let args = c.args in
    let work = c.test_by_equations in
    let promised =
    promised_if_fine args.sheet.now args.disks.now (as_read (Ok c.in_ok-code.code)) c.in_ok-code.ensures.answer args.size args.stripe.now c.survivors_test.ensures
    (ap outcome c.in_ok-survivors_test.was) (Gives (as_said work.result)) work.ensures refl in
    record { refusal = promised.refusal; says = promised.says; exactly = promised.exactly }
