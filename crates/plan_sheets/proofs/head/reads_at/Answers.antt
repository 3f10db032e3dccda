-- `plan_sheets::head::reads_at` meets its contract: the edition decides. Assumes nothing.
use borrow.Author.Tests.{eq-eqb, ne_eqb}
use Rattle.plan_sheets.proofs.head.reads_at.Goals as goal

pub returns-then-edition-eq3 : goal.returns-then-edition-eq3
returns-then-edition-eq3 c = simp (eq-eqb _ _ c.if-edition-eq3.true)

pub returns : goal.returns
returns c = simp (ne_eqb _ _ c.if-edition-eq3.false)
