-- `strips::strip_place` meets its contract: the part of no bytes where its verdict refuses, the disk's strip where it is fine. Assumes nothing.
use Rattle.std.proofs.Common.{length, refl, sym, ap, ◌∙◌, arith}
use Rattle.codes.specs.Codes.{linear, no_code}
use Rattle.refusals.specs.Refusals.{numbered}
use Rattle.strips.specs.Strips.{strip_faults}
use Rattle.refusals.specs.Orders.{Fine, outcome}
use Rattle.refusals.proofs.OrderLaws.{refusal_stands}
use Rattle.code_sheets.specs.CodeReading.{CodeRead}
use Rattle.code_sheets.proofs.ReadingLaws.{ReadFrom, from_refused}
use Rattle.strips.proofs.StripLaws.{StripFits, fine_strip_fits, strip_ends_within, strip_refused, strip_placed}
use Rattle.strips.proofs.strip_place.Goals as goal
use Rattle.strips.proofs.strip_place.Goals.{In-Ok, In-Ok-strip_test}

-- The code is what the sheet is read as, within its limits
from : (c : In-Ok) → ReadFrom c.args.sheet.now (record { verdict = Fine; code = linear c.in-Ok.code })
from c = (c.in-Ok.ensures.answer, λ fine. c.in-Ok.code.within)

fits : (c : In-Ok-strip_test) → StripFits (record { verdict = Fine; code = linear c.in-Ok.code }) c.args.disk c.args.size (length c.args.stripe.now)
fits c =
    fine_strip_fits c.args.sheet.now _ (from (goal.at.In-Ok-strip_test c).In-Ok) c.args.disk c.args.size (length c.args.stripe.now) c.strip_test.ensures
    (ap outcome c.in-Ok-strip_test.is)

pub returns-in_default : goal.returns-in_default
returns-in_default c =
    let args = c.args in
    let refusal = numbered c.in_default.field-0 in
    let stands = refusal_stands refusal (strip_faults no_code.layout args.disk args.size (length args.stripe.now)) in
    let all =
    strip_refused args.sheet.now args.stripe.now args.disk args.size _ (from_refused args.sheet.now c.in_default.ensures.answer) _ (sym stands)
    c.nowhere.ensures refl in
    record { answer = all.0; shows = all.1 }

pub returns-in_default-strip_test : goal.returns-in_default-strip_test
returns-in_default-strip_test c =
    let args = c.args in
    let all =
    strip_refused args.sheet.now args.stripe.now args.disk args.size _ (from (goal.at.returns-in_default-strip_test c).In-Ok) _ c.strip_test.ensures
    c.nowhere-in_default-strip_test.ensures (ap outcome c.in_default-strip_test.is) in
    record { answer = all.0; shows = all.1 }

pub overflow_mul-result : goal.overflow_mul-result
overflow_mul-result c = omega (arith, strip_ends_within (fits (goal.at.overflow_mul-result c).In-Ok-strip_test) c.first_symbol.ensures refl)

pub overflow_mul-result-2 : goal.overflow_mul-result-2
overflow_mul-result-2 c = omega (arith, strip_ends_within (fits (goal.at.overflow_mul-result-2 c).In-Ok-strip_test) c.first_symbol.ensures c.height_of.ensures)

pub returns : goal.returns
returns c =
    let args = c.args in
    let all =
    strip_placed args.sheet.now args.stripe.now args.disk args.size _ (from (goal.at.returns c).In-Ok) _ c.strip_test.ensures
    c.first_symbol.ensures c.height_of.ensures (ap outcome c.in-Ok-strip_test.is) in
    record { answer = all.0; shows = all.1 }
