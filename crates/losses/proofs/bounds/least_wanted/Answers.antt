-- `losses::bounds::least_wanted` meets its contract. Assumes nothing.
use borrow.Author.Tests.{eq-eqb, ne_eqb}
use Rattle.losses.proofs.bounds.least_wanted.Goals as goal

pub returns-then-edition-eq2 : goal.returns-then-edition-eq2
returns-then-edition-eq2 c = simp (eq-eqb _ _ c.if-edition-eq2.true)

pub returns : goal.returns
returns c = simp (ne_eqb _ _ c.if-edition-eq2.false)
