-- Laws of the parts of a sheet: from a place to the end, and so many bytes from a place on as far as the sheet goes. Assumes nothing.
use mathlib.Core.Path.{◌≡◌, sym, ap, ◌∙◌}
use mathlib.Core.List.{List, [], ◌∷◌}
use Prim.Native.Nat.{ℕ, zero, suc, ◌+◌, ◌-◌, ◌≤◌}
use native.Mathlib.Nat.{zero-add, suc-add}
use native.Mathlib.Omega.{arith}
use lib.ListN.{length, take, drop, length-drop, drop_of_length-le}
use lib.Seq.{take_all, take-nil}

-- From a place to the end
pub part_to_end : (bytes : List ℕ) (from : ℕ) → take (length bytes - from) (drop from bytes) ≡ drop from bytes
part_to_end bytes from = take_all (length bytes - from) (drop from bytes) (omega (arith, length-drop from bytes))

-- So many bytes from a place on: none behind the end
pub part_none : (bytes : List ℕ) (first count : ℕ) → length bytes ≤ first → [] ≡ take count (drop first bytes)
part_none bytes first count h = sym (ap (take count) (drop_of_length-le bytes h) ∙ take-nil count)

-- those to the end
pub part_clipped : (bytes : List ℕ) (first count : ℕ) → length bytes ≤ first + count → take (length bytes - first) (drop first bytes) ≡ take count (drop first bytes)
part_clipped bytes first count h = part_to_end bytes first ∙ sym (take_all count (drop first bytes) (omega (arith, length-drop first bytes)))

-- or all
pub part_whole : (bytes : List ℕ) (first count : ℕ) → take (first + count - first) (drop first bytes) ≡ take count (drop first bytes)
part_whole bytes first count =
    let size : first + count - first ≡ count = omega arith in
    ap (λ (n : ℕ). take n (drop first bytes)) size

-- What is cut off behind a place, seen from that place
pub drop_take : (from size : ℕ) (bytes : List ℕ) → drop from (take (from + size) bytes) ≡ take size (drop from bytes)
drop_take zero size bytes = ap (λ (n : ℕ). take n bytes) (zero-add size)
drop_take (suc from) size [] = ap (drop (suc from)) (take-nil (suc from + size)) ∙ sym (take-nil size)
drop_take (suc from) size (byte ∷ bytes) = ap (λ (n : ℕ). drop (suc from) (take n (byte ∷ bytes))) (suc-add from size) ∙ drop_take from size bytes
