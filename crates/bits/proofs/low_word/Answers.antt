-- `bits::low_word` meets its contract: the set is one word. Assumes nothing.
use mathlib.Core.Path.{sym}
use native.Mathlib.Nat.{mod-eq_of_lt}
use borrow.Author.Rules.{rules}
use Rattle.bits.specs.Numerals.{numeral}
use Rattle.bits.proofs.low_word.Goals as goal

pub returns : goal.returns
unfolding numeral
returns c = sym (mod-eq_of_lt (search rules))
