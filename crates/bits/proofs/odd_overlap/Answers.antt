-- `bits::odd_overlap` meets its contract: the overlap is the parity of the count. Assumes nothing.
use mathlib.Core.Path.{ap, ◌∙◌}
use Prim.Native.Nat.{ℕ, ◌%◌}
use lib.Dec.{eqb}
use Rattle.bits.specs.BitSets.{count, overlap}
use Rattle.bits.proofs.odd_overlap.Goals as goal

pub returns : goal.returns
unfolding overlap
returns c = ap (λ (n : ℕ). eqb (n % 2) 1) (c.count.ensures ∙ ap count c.common.ensures)
