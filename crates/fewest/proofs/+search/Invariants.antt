-- The measure of `fewest::search`, which calls itself for its two branches: how many symbols may be taken.
use Rattle.bits.specs.BitSets.{has}
use Rattle.bits.specs.Numerals.{numeral}
use Rattle.fewest.specs.InnerFewest.{size}
use Rattle.fewest.proofs.+search.Given as goal

abbrev pub decreases-search : goal.decreases-search
decreases-search l = size (has (numeral l.allowed))
