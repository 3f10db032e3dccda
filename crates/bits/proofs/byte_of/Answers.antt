-- `bits::byte_of` meets its contract. Assumes nothing.
use mathlib.Core.Path.{refl}
use Rattle.bits.specs.Numerals.{numeral}
use Rattle.bits.proofs.byte_of.Goals as goal

pub returns : goal.returns
unfolding numeral
returns c = refl
