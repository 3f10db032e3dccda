-- `views::symbol_place` meets its contract: the part of no bytes where its verdict refuses, else the symbol's, a lost one's in the spare strip. Assumes nothing.
use Rattle.std.proofs.Common.{length, refl, sym, ap, arith}
use Rattle.codes.specs.Codes.{linear, no_code}
use Rattle.refusals.specs.Orders.{Fine, outcome}
use Rattle.refusals.specs.Refusals.{numbered}
use Rattle.refusals.proofs.OrderLaws.{refusal_stands}
use Rattle.code_sheets.proofs.ReadingLaws.{ReadFrom, from_refused}
use Rattle.views.specs.Views.{look_up_faults}
use Rattle.views.proofs.LookUpLaws.{LookUpFits, fine_look_up_fits, look_up_refused, lost_from_first, lost_ends_within, lost_placed, survivor_ends_within, survivor_placed}
use Rattle.views.proofs.symbol_place.Goals as goal
use Rattle.views.proofs.symbol_place.Goals.{In-Ok, In-Ok-look_up_test}

-- The code is what the sheet is read as, within its limits
from : (c : In-Ok) → ReadFrom c.args.sheet.now (record { verdict = Fine; code = linear c.in-Ok.code })
from c = (c.in-Ok.ensures.answer, λ fine. c.in-Ok.code.within)

fits : (c : In-Ok-look_up_test) → LookUpFits (record { verdict = Fine; code = linear c.in-Ok.code }) c.args.disk c.args.size (length c.args.stripe.now) (length c.args.spare.now) c.args.symbol
fits c =
    let args = c.args in
    fine_look_up_fits args.sheet.now _ (from (goal.at.In-Ok-look_up_test c).In-Ok) args.disk args.size (length args.stripe.now) (length args.spare.now) args.symbol
    c.look_up_test.ensures (ap outcome c.in-Ok-look_up_test.is)

pub returns-in_default : goal.returns-in_default
returns-in_default c =
    let args = c.args in
    let refusal = numbered c.in_default.field-0 in
    let stands = refusal_stands refusal (look_up_faults no_code.layout args.disk args.size (length args.stripe.now) (length args.spare.now) args.symbol) in
    let all =
    look_up_refused args.sheet.now args.stripe.now args.spare.now args.disk args.size args.symbol _ (from_refused args.sheet.now c.in_default.ensures.answer) _ (sym stands)
    c.nowhere.ensures refl in
    record { answer = all.0; shows = all.1 }

pub returns-in_default-look_up_test : goal.returns-in_default-look_up_test
returns-in_default-look_up_test c =
    let args = c.args in
    let all =
    look_up_refused args.sheet.now args.stripe.now args.spare.now args.disk args.size args.symbol _ (from (goal.at.returns-in_default-look_up_test c).In-Ok) _ c.look_up_test.ensures
    c.nowhere-in_default-look_up_test.ensures (ap outcome c.in_default-look_up_test.is) in
    record { answer = all.0; shows = all.1 }

pub disk_of-requires : goal.disk_of-requires
disk_of-requires c =
    let fit_all = fits (goal.at.disk_of-requires c).In-Ok-look_up_test in
    fit_all.strip.limits.height_from

pub first_symbol-requires : goal.first_symbol-requires
first_symbol-requires c =
    let fit_all = fits (goal.at.first_symbol-requires c).In-Ok-look_up_test in
    let fit = fit_all in
    omega (arith, fit.strip, fit.strip.limits)

pub overflow_sub-row : goal.overflow_sub-row
overflow_sub-row c =
    let fit_all = fits (goal.at.overflow_sub-row c).In-Ok-look_up_test in
    lost_from_first fit_all c.disk_of.ensures c.if-disk_of-disk.true c.first_symbol.ensures

pub overflow_mul-result : goal.overflow_mul-result
overflow_mul-result c =
    let fit_all = fits (goal.at.overflow_mul-result c).In-Ok-look_up_test in
    omega
    (arith, lost_ends_within fit_all c.disk_of.ensures c.if-disk_of-disk.true c.first_symbol.ensures)

pub returns-then-disk_of-disk : goal.returns-then-disk_of-disk
returns-then-disk_of-disk c =
    let args = c.args in
    let all = lost_placed args.sheet.now args.stripe.now args.spare.now args.disk args.size args.symbol _ (from (goal.at.returns-then-disk_of-disk c).In-Ok) _ c.look_up_test.ensures
    (ap outcome c.in-Ok-look_up_test.is) c.disk_of.ensures c.if-disk_of-disk.true c.first_symbol.ensures in record { answer = all.0; shows = all.1 }

pub overflow_mul-result-2 : goal.overflow_mul-result-2
overflow_mul-result-2 c =
    let fit_all = fits (goal.at.overflow_mul-result-2 c).In-Ok-look_up_test in
    omega (arith, survivor_ends_within fit_all)

pub returns : goal.returns
returns c =
    let args = c.args in
    let all = survivor_placed args.sheet.now args.stripe.now args.spare.now args.disk args.size args.symbol _ (from (goal.at.returns c).In-Ok) _ c.look_up_test.ensures
    (ap outcome c.in-Ok-look_up_test.is) c.disk_of.ensures c.if-disk_of-disk.false in record { answer = all.0; shows = all.1 }
