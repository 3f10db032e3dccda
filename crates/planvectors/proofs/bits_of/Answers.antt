-- `planvectors::bits_of` asks for the bits of no NaN. Assumes nothing.
use mathlib.Core.Path.{◌≡◌, sym}
use mathlib.Core.Bool.{true, not, true≢false}
use lib.Dec.{T}
use lib.Ieee.{Float, nan, inf, fin, le, lt, eq, is_nan}
use Rattle.planvectors.proofs.bits_of.Goals as goal

-- What is from another float on is no NaN
number_from : (x least : Float) → le least x ≡ true → T (not (is_nan x))
unfolding le lt eq is_nan
number_from nan nan h = absurd (true≢false (sym h))
number_from nan (inf s) h = absurd (true≢false (sym h))
number_from nan (fin s m e) h = absurd (true≢false (sym h))
number_from (inf s) least h = tt
number_from (fin s m e) least h = tt

pub float_to_bits-result : goal.float_to_bits-result
float_to_bits-result c = number_from _ _ c.if-sum.true
