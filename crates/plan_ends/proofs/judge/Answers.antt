-- `plan_ends::judge` meets its contract: each return is the judgement where nothing was told before. Assumes nothing.
use Rattle.std.proofs.Common.{sym, ap, ◌∙◌, refl, ℕ, ◌≤◌, subst}
use Rattle.std.proofs.lemmas.Result.{err_from_is_err_and}
use Rattle.bits.specs.BitSets.{has, count}
use Rattle.bits.specs.Numerals.{numeral, numerals}
use Rattle.plans.proofs.EndLaws.{lowest_from_origin, judged_refused, judged_unfilled, judged_wrong, judged_end}
use Rattle.plan_ends.proofs.judge.Goals as goal

pub returns-in_err-end : goal.returns-in_err-end
returns-in_err-end c =
    let loss = c.args.loss in
    let gives = err_from_is_err_and c.from_residual.result c.from_residual.ensures.1 in
    rw (gives.1, gives.2)
    (judged_refused (numerals c.args.code_rows) loss.symbols (numeral loss.survivors) (numeral loss.wanted) loss.origin c.requires.1 c.requires.0 _ _ c.in_err-end.ensures c.args.stated _ refl)

-- What a search finds does not lie before the origin
pub overflow_sub-place : goal.overflow_sub-place
overflow_sub-place c =
    let loss = c.args.loss in
    subst (λ (s : ℕ). loss.origin ≤ s) (sym c.in-Some.ensures.0)
    (lowest_from_origin loss.symbols loss.origin (has (numeral loss.wanted)) _ c.requires.1.wanted_from c.requires.1.origin_to)

pub returns-in-Some : goal.returns-in-Some
returns-in-Some c =
    let loss = c.args.loss in
    judged_unfilled (numerals c.args.code_rows) loss.symbols (numeral loss.survivors) (numeral loss.wanted) loss.origin c.requires.1 c.requires.0 _ _ c.in_ok-end.ensures c.args.stated
    refl _ c.in-Some.ensures.0 c.in-Some.ensures.1

pub overflow_sub-place-in-Some-first_wrong : goal.overflow_sub-place-in-Some-first_wrong
overflow_sub-place-in-Some-first_wrong c =
    let loss = c.args.loss in
    subst (λ (s : ℕ). loss.origin ≤ s) (sym c.in-Some-first_wrong.ensures.lowest.0)
    (lowest_from_origin loss.symbols loss.origin (has (numeral loss.wanted)) _ c.requires.1.wanted_from c.requires.1.origin_to)

pub returns-in-Some-first_wrong : goal.returns-in-Some-first_wrong
returns-in-Some-first_wrong c =
    let loss = c.args.loss in
    let wrong = c.in-Some-first_wrong.ensures in
    judged_wrong (numerals c.args.code_rows) loss.symbols (numeral loss.survivors) (numeral loss.wanted) loss.origin c.requires.1 c.requires.0 _ _ c.in_ok-end.ensures c.args.stated
    refl c.in_default.ensures _ _ wrong.lowest.0 wrong.lowest.1 wrong.off

pub returns : goal.returns
returns c =
    let loss = c.args.loss in
    c.refuse_if.ensures
    ∙ judged_end (numerals c.args.code_rows) loss.symbols (numeral loss.survivors) (numeral loss.wanted) loss.origin c.requires.1 c.requires.0 _ _ c.in_ok-end.ensures c.args.stated
    refl c.in_default.ensures _ c.in_default-first_wrong.ensures.lowest (c.count-reads.ensures ∙ ap count c.common.ensures)
