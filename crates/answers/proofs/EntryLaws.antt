-- Entries behind the end of a list. Assumes nothing.
use mathlib.Core.Path.{◌≡◌, refl}
use mathlib.Core.List.{List, [], ◌∷◌}
use Prim.Native.Nat.{ℕ, zero, suc, ◌≤◌}
use native.Mathlib.Omega.{arith}
use lib.ListN.{length, get_or}

-- Behind a list is 0
pub zero_behind : (list : List ℕ) (index : ℕ) → length list ≤ index → get_or list index 0 ≡ 0
zero_behind [] index h = refl
zero_behind (entry ∷ list) zero h = absurd (omega arith)
zero_behind (entry ∷ list) (suc index) h = zero_behind list index (omega arith)
