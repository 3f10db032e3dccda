-- `plan_sheets::head::wanted_count_at` meets its contract: the edition decides. Assumes nothing.
use native.Mathlib.Omega.{arith}
use borrow.Author.Tests.{eq-eqb, ne_eqb}
use Rattle.plan_sheets.proofs.head.wanted_count_at.Goals as goal

pub overflow_add-result : goal.overflow_add-result
overflow_add-result c = omega (arith, c.requires)

pub returns-then-edition-eq3 : goal.returns-then-edition-eq3
returns-then-edition-eq3 c = simp (eq-eqb _ _ c.if-edition-eq3.true)

pub returns : goal.returns
returns c = simp (ne_eqb _ _ c.if-edition-eq3.false)
