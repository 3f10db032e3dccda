-- `encoding::encode` meets its contract: its verdict is the order of faults, and its work the encoding. Assumes nothing.
use Rattle.std.proofs.Common.{◌≡◌, ℕ, ◌*◌, List, Ok, Err, refl, length, sym, ap, ◌∙◌, arith}
use Rattle.std.proofs.lemmas.Result.{err_from_is_err_and}
use Rattle.gf2.specs.Stripes.{encoding}
use Rattle.codes.specs.Codes.{linear}
use Rattle.refusals.specs.Orders.{outcome}
use Rattle.refusals.specs.Refusals.{numbered}
use Rattle.code_sheets.specs.CodeReading.{as_read}
use Rattle.encoding.specs.Encoding.{encode_verdict}
use Rattle.encoding.proofs.CallLaws.{rows_counted, Fits, fine_fits, verdict_is, sheet_refused, stripe_refused, stripe_encoded}
use Rattle.encoding.proofs.encode.Goals as goal
use Rattle.encoding.proofs.encode.Goals.{After-encode_test, In_ok-encode_test}

-- The outcome of the tests is that of the whole order
tested : (c : After-encode_test) → outcome c.encode_test.result ≡ encode_verdict c.args.sheet.now c.args.size (length c.args.contents.now) (length c.args.stripe.now)
tested c =
    verdict_is c.args.sheet.now c.args.contents.now c.args.stripe.now c.args.size (as_read (Ok c.in_ok-code.code)) c.in_ok-code.ensures.answer c.symbols.ensures
    c.encode_test.ensures

-- What the tests say of the lengths where they refuse nothing
fits : (c : In_ok-encode_test) → Fits (as_read (Ok c.in_ok-code.code)) c.symbols.result c.args.size (length c.args.contents.now) (length c.args.stripe.now)
fits c =
    fine_fits (as_read (Ok c.in_ok-code.code)) c.symbols.result c.args.size (length c.args.contents.now) (length c.args.stripe.now)
    (sym c.encode_test.ensures ∙ ap outcome c.in_ok-encode_test.was)

pub returns-in_err-code : goal.returns-in_err-code
returns-in_err-code c =
    let args = c.args in
    let p = err_from_is_err_and c.from_residual.result c.from_residual.ensures.1 in
    let read = as_read (Err c.in_err-code.field-0.0) in
    let answer = sheet_refused args.sheet.now args.contents.now args.stripe.now args.size read c.in_err-code.ensures.answer (numbered c.in_err-code.field-0.0) refl in
    rw (p.1, p.2)
    (record { answer = answer; stripe = stripe_refused args.sheet.now args.contents.now args.stripe.now args.size read c.in_err-code.ensures.answer _ _ answer refl })

pub returns-in_err-encode_test : goal.returns-in_err-encode_test
returns-in_err-encode_test c =
    let args = c.args in
    let p = err_from_is_err_and c.from_residual-in_err-encode_test.result c.from_residual-in_err-encode_test.ensures.1 in
    let told = ap outcome c.in_err-encode_test.was in
    let answer = tested (goal.at.returns-in_err-encode_test c).After-encode_test in
    rw (p.1, p.2)
    (record {
      answer = sym told ∙ answer;
      stripe = stripe_refused args.sheet.now args.contents.now args.stripe.now args.size (as_read (Ok c.in_ok-code.code)) c.in_ok-code.ensures.answer _ _ answer told;
    })

pub encode_symbols-requires-clause-rows_few : goal.encode_symbols-requires-clause-rows_few
encode_symbols-requires-clause-rows_few c = omega (arith, rows_counted (linear c.in_ok-code.code) c.matrix.result.now c.in_ok-code.code.within c.matrix.ensures, c.in_ok-code.code.within.symbols_to)

pub encode_symbols-requires-clause-stripe_whole : goal.encode_symbols-requires-clause-stripe_whole
encode_symbols-requires-clause-stripe_whole c =
    let fits = fits (goal.at.encode_symbols-requires-clause-stripe_whole c).In_ok-encode_test in
    let counted = c.symbols.ensures ∙ sym (rows_counted (linear c.in_ok-code.code) c.matrix.result.now c.in_ok-code.code.within c.matrix.ensures) in
    fits.stripe_whole ∙ ap (λ (n : ℕ). n * c.args.size) counted

pub returns : goal.returns
returns c =
    let args = c.args in
    let told = ap outcome c.in_ok-encode_test.was in
    let answer = tested (goal.at.returns c).After-encode_test in
    record {
      answer = sym told ∙ answer;
      stripe = stripe_encoded args.sheet.now args.contents.now args.stripe.now args.size (as_read (Ok c.in_ok-code.code)) c.in_ok-code.ensures.answer
          _ _ answer told (c.encode_symbols.ensures ∙ ap (λ (rows : List ℕ). encoding args.size c.in_ok-code.code.data_symbols rows args.contents.now) c.matrix.ensures);
    }
