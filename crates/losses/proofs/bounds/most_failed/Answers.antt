-- `losses::bounds::most_failed` meets its contract. Assumes nothing.
use borrow.Author.Tests.{eq-eqb, ne_eqb}
use Rattle.losses.proofs.bounds.most_failed.Goals as goal

pub returns-then-edition-eq3 : goal.returns-then-edition-eq3
returns-then-edition-eq3 c = simp (eq-eqb _ _ c.if-edition-eq3.true)

pub returns : goal.returns
returns c = simp (ne_eqb _ _ c.if-edition-eq3.false)
