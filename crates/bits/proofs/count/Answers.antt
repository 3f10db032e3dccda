-- `bits::count` meets its contract: the processor's count of ones is the number of elements. Assumes nothing.
use mathlib.Core.Path.{sym}
use native.Mathlib.Omega.{arith}
use borrow.Author.Rules.{rules}
use lib.Count.{ones-le}
use Rattle.bits.specs.Numerals.{numeral}
use Rattle.bits.proofs.BitSetLaws.{count_ones}
use Rattle.bits.proofs.count.Goals as goal

pub overflow_cast-result : goal.overflow_cast-result
overflow_cast-result c = omega (arith, ones-le 64 c.args.set.word (search rules))

pub returns : goal.returns
unfolding numeral
returns c = sym (count_ones c.args.set.word)
