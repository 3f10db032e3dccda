-- `bits::with` meets its contract: the shifted one is not cut off. Assumes nothing.
use mathlib.Core.Path.{ap}
use lib.Bits.{bit_or}
use Rattle.bits.specs.BitSets.{with}
use Rattle.bits.specs.Numerals.{numeral}
use Rattle.bits.proofs.SetLaws.{shifted_one}
use Rattle.bits.proofs.with.Goals as goal

pub returns : goal.returns
unfolding numeral with
returns c = ap (bit_or c.args.set.word) (shifted_one 64 c.args.bit c.requires)
