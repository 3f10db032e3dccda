-- `soundness::list_equations` meets its contract: the refusal, or the equations. Assumes nothing.
use mathlib.Core.Path.{sym, ap, ◌∙◌}
use Rattle.std.specs.Prelude.{Ok, Err}
use Rattle.std.proofs.lemmas.Result.{err_from_is_err_and}
use Rattle.plans.specs.Check.{asked_faults}
use Rattle.refusals.specs.Orders.{Fine, outcome}
use Rattle.refusals.proofs.OrderLaws.{refusal_stands}
use Rattle.code_sheets.specs.CodeReading.{as_read}
use Rattle.soundness.proofs.CallLaws.{asked_fine, list_verdict, list_of_sheet, same_list}
use Rattle.soundness.proofs.list_equations.Goals as goal

pub returns-in_err-code : goal.returns-in_err-code
returns-in_err-code c =
    let args = c.args in
    let p = err_from_is_err_and c.from_residual.result c.from_residual.ensures.1 in
    let read = as_read (Err c.in_err-code.field-0.0) in
    let refused = list_verdict args.sheet.now args.disks.now read c.in_err-code.ensures.answer (sym (refusal_stands _ (asked_faults read.code.layout args.disks.now))) in
    rw (p.1, p.2) (record { refusal = refused; equations = tt; list = tt })

pub returns-in_err-disks_test : goal.returns-in_err-disks_test
returns-in_err-disks_test c =
    let args = c.args in
    let p = err_from_is_err_and c.from_residual-in_err-disks_test.result c.from_residual-in_err-disks_test.ensures.1 in
    let refused =
    list_verdict args.sheet.now args.disks.now (as_read (Ok c.in_ok-code.code)) c.in_ok-code.ensures.answer (sym (ap outcome c.in_err-disks_test.was) ∙ c.disks_test.ensures) in
    rw (p.1, p.2) (record { refusal = refused; equations = tt; list = tt })

pub equations_for-requires : goal.equations_for-requires
equations_for-requires c =
    (asked_fine c.in_ok-code.code.layout c.args.disks.now Fine (sym c.disks_test.ensures ∙ ap outcome c.in_ok-disks_test.was)).1

pub returns : goal.returns
returns c =
    let args = c.args in
    let read = as_read (Ok c.in_ok-code.code) in
    let answer = c.in_ok-code.ensures.answer in
    record {
      refusal = list_verdict args.sheet.now args.disks.now read answer (sym (ap outcome c.in_ok-disks_test.was) ∙ c.disks_test.ensures);
      equations = list_of_sheet args.sheet.now args.disks.now read answer c.equations_for.ensures.equations;
      list = same_list args.sheet.now args.disks.now read answer c.equations_for.ensures.list;
    }
