-- `lists::is_bad` meets its contract. Assumes nothing.
use mathlib.Core.Path.{sym, ap, ◌∙◌}
use Rattle.bits.specs.BitSets.{has}
use Rattle.bits.specs.Numerals.{numeral}
use Rattle.lists.proofs.is_bad.Goals as goal

pub returns-then-not-is_element : goal.returns-then-not-is_element
returns-then-not-is_element c = rw ((sym (c.is_element.ensures ∙ ap (has (numeral c.args.allowed)) c.byte_at.ensures.0)), c.if-not-is_element.true)

pub returns-else-not-is_element : goal.returns-else-not-is_element
returns-else-not-is_element c = rw ((sym (c.is_element.ensures ∙ ap (has (numeral c.args.allowed)) c.byte_at.ensures.0)), c.if-not-is_element.false) c.is_not_rising.ensures
