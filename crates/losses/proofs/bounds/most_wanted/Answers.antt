-- `losses::bounds::most_wanted` meets its contract. Assumes nothing.
use borrow.Author.Tests.{eq-eqb, ne_eqb}
use Rattle.losses.proofs.bounds.most_wanted.Goals as goal

pub returns-then-edition-eq1 : goal.returns-then-edition-eq1
returns-then-edition-eq1 c = rw (eq-eqb _ 1 c.if-edition-eq1.true)

pub returns : goal.returns
returns c = rw (ne_eqb _ 1 c.if-edition-eq1.false) c.count.ensures
