-- `strips::strip_verdict` meets its contract. Assumes nothing.
use Rattle.std.proofs.Common.{length}
use Rattle.std.proofs.lemmas.Result.{err_from_is_err_and}
use Rattle.code_sheets.proofs.ReadingLaws.{read_refused, read_then}
use Rattle.codes.specs.Codes.{LinearCode}
use Rattle.strips.specs.Strips.{strip_faults, strip_verdict}
use Rattle.strips.proofs.strip_verdict.Goals as goal

pub returns-in_err-code : goal.returns-in_err-code
unfolding strip_verdict
returns-in_err-code c =
    let args = c.args in
    let p = err_from_is_err_and c.from_residual.result c.from_residual.ensures.1 in
    rw (p.1, p.2)
    (record { answer = read_refused args.sheet.now (λ (code : LinearCode). strip_faults code.layout args.disk args.size (length args.stripe.now)) c.in_err-code.ensures.answer })

pub returns : goal.returns
unfolding strip_verdict
returns c =
    let args = c.args in
    record { answer = read_then args.sheet.now (λ (code : LinearCode). strip_faults code.layout args.disk args.size (length args.stripe.now)) c.in_ok-code.ensures.answer c.strip_test.ensures }
