-- Laws of one pattern and one row. Assumes nothing.
use mathlib.Core.Path.{◌≡◌, refl}
use Prim.Native.Nat.{ℕ}
use lib.Bits.{bit_xor, xor_zero_r}
use Rattle.bits.specs.BitSets.{overlap, scale}
use Rattle.gf2.specs.InnerElimination.{reduce_pattern}

-- A pattern that overlaps the row evenly stays
pub reduce_pattern_even : (pivot row pattern : ℕ) → overlap pattern row ≡ 0 → reduce_pattern pivot row pattern ≡ pattern
unfolding scale
reduce_pattern_even pivot row pattern even = rw even (xor_zero_r pattern)

-- To a pattern that overlaps the row oddly the pivot is added
pub reduce_pattern_odd : (pivot row pattern : ℕ) → overlap pattern row ≡ 1 → reduce_pattern pivot row pattern ≡ bit_xor pattern pivot
unfolding scale
reduce_pattern_odd pivot row pattern odd = rw odd refl
