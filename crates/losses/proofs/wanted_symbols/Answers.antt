-- `losses::wanted_symbols` meets its contract: a list without entries wants all. Assumes nothing.
use mathlib.Core.Path.{sym, ◌∙◌}
use Rattle.losses.proofs.wanted_symbols.Goals as goal

pub returns-then-is_empty : goal.returns-then-is_empty
returns-then-is_empty c = λ s. rw (sym c.is_empty.ensures ∙ c.if-is_empty.true)

pub set_of-requires : goal.set_of-requires
set_of-requires c = c.requires

pub returns : goal.returns
returns c = λ s. rw (sym c.is_empty.ensures ∙ c.if-is_empty.false) (c.set_of.ensures s)
