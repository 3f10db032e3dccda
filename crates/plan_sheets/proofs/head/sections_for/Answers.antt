-- `plan_sheets::head::sections_for` meets its contract: the edition decides. Assumes nothing.
use mathlib.Core.Path.{sym, subst}
use native.Mathlib.Omega.{arith}
use Rattle.plan_sheets.specs.InnerPlanSheets.{SmallSections}
use Rattle.plan_sheets.proofs.ReadingLaws.{sections_third, sections_second, sections_other, sections_small}
use Rattle.plan_sheets.proofs.head.sections_for.Goals as goal

pub overflow_add-result : goal.overflow_add-result
overflow_add-result c = omega (arith, c.requires)

pub returns-then-edition-eq3 : goal.returns-then-edition-eq3
returns-then-edition-eq3 c =
    let args = c.args in
    let sections = sections_third args.edition args.failed args.listed c.if-edition-eq3.true in
    record { sections = sections; small = subst SmallSections (sym sections) (sections_small args.edition args.failed args.listed c.requires.0 c.requires.1) }

pub returns-then-edition-eq2 : goal.returns-then-edition-eq2
returns-then-edition-eq2 c =
    let args = c.args in
    let sections = sections_second args.edition args.failed args.listed c.if-edition-eq2.true in
    record { sections = sections; small = subst SmallSections (sym sections) (sections_small args.edition args.failed args.listed c.requires.0 c.requires.1) }

pub returns : goal.returns
returns c =
    let args = c.args in
    let sections = sections_other args.edition args.failed args.listed c.if-edition-eq3.false c.if-edition-eq2.false in
    record { sections = sections; small = subst SmallSections (sym sections) (sections_small args.edition args.failed args.listed c.requires.0 c.requires.1) }
