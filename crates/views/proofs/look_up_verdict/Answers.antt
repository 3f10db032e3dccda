-- `views::look_up_verdict` meets its contract. Assumes nothing.
use Rattle.std.proofs.Common.{length, List}
use Rattle.std.proofs.lemmas.Result.{err_from_is_err_and}
use Rattle.code_sheets.proofs.ReadingLaws.{read_refused, read_then}
use Rattle.codes.specs.Codes.{LinearCode}
use Rattle.refusals.specs.Orders.{Fault}
use Rattle.views.specs.Views.{look_up_faults, look_up_verdict}
use Rattle.views.proofs.look_up_verdict.Goals as goal

pub returns-in_err-code : goal.returns-in_err-code
unfolding look_up_verdict
returns-in_err-code c =
    let args = c.args in
    let p = err_from_is_err_and c.from_residual.result c.from_residual.ensures.1 in
    let faults : LinearCode → List Fault = λ code. look_up_faults code.layout args.disk args.size (length args.stripe.now) (length args.spare.now) args.symbol in
    rw (p.1, p.2) (record { answer = read_refused args.sheet.now faults c.in_err-code.ensures.answer })

pub returns : goal.returns
unfolding look_up_verdict
returns c =
    let args = c.args in
    let faults : LinearCode → List Fault = λ code. look_up_faults code.layout args.disk args.size (length args.stripe.now) (length args.spare.now) args.symbol in
    record { answer = read_then args.sheet.now faults c.in_ok-code.ensures.answer c.look_up_test.ensures }
