-- `bits::is_element` meets its contract: a set has no number from its width on. Assumes nothing.
use mathlib.Core.Path.{sym}
use borrow.Author.Rules.{rules}
use Rattle.bits.specs.Numerals.{set_width, numeral}
use Rattle.bits.proofs.SetLaws.{has_above}
use Rattle.bits.proofs.is_element.Goals as goal

pub returns-then-number-ge-SET_WIDTH : goal.returns-then-number-ge-SET_WIDTH
unfolding numeral
returns-then-number-ge-SET_WIDTH c = sym (has_above set_width c.args.set.word c.args.number (search rules) c.if-number-ge-SET_WIDTH.true)

pub returns : goal.returns
returns c = c.has.ensures
