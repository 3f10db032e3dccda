-- `bits::has` meets its contract: a shift and a remainder are the bit. Assumes nothing.
use mathlib.Core.Path.{refl}
use Rattle.bits.specs.BitSets.{has}
use Rattle.bits.specs.Numerals.{numeral}
use Rattle.bits.proofs.has.Goals as goal

pub returns : goal.returns
unfolding numeral has
returns c = refl
