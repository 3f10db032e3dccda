-- `plan_ends::first_unfilled` meets its contract: what is wanted and known differs from what is wanted in what is unfilled. Assumes nothing.
use Rattle.std.proofs.Common.{◌≡◌, sym, ap, ◌∙◌, Bool, not, cond, ℕ, ltb}
use borrow.Author.Tests.{lt-ltb, le-ltb}
use Rattle.bits.specs.Numerals.{numeral, first_difference}
use Rattle.bits.specs.BitSets.{has}
use Rattle.plans.specs.Judgement.{lowest_wanted}
use Rattle.plans.proofs.EndLaws.{lowest_unknown}
use Rattle.plan_ends.proofs.first_unfilled.Goals as goal
use Rattle.plan_ends.proofs.first_unfilled.Goals.{After-first_difference-first}

-- What the search finds
found : (c : After-first_difference-first) → cond (ltb c.first_difference-first.result c.args.symbols) c.first_difference-first.result c.args.symbols
    ≡ lowest_wanted c.args.symbols (has (numeral c.args.wanted)) (λ s. not (has (numeral c.args.known) s))
found c =
    let wanted = numeral c.args.wanted in
    lowest_unknown c.args.symbols wanted (numeral c.args.known) c.requires
    (c.first_difference-first.ensures.lowest ∙ ap (λ (both : ℕ). first_difference both wanted) c.common.ensures)

pub returns-then-first-symbols : goal.returns-then-first-symbols
returns-then-first-symbols c =
    let first = c.first_difference-first.result in
    let symbols = c.args.symbols in
    (sym (ap (λ (here : Bool). cond here first symbols) (lt-ltb first symbols c.if-first-symbols.true)) ∙ found (goal.at.returns-then-first-symbols c).After-first_difference-first, c.if-first-symbols.true)

pub returns-else-first-symbols : goal.returns-else-first-symbols
returns-else-first-symbols c =
    let first = c.first_difference-first.result in
    let symbols = c.args.symbols in
    sym (found (goal.at.returns-else-first-symbols c).After-first_difference-first) ∙ ap (λ (here : Bool). cond here first symbols) (le-ltb first symbols c.if-first-symbols.false)
