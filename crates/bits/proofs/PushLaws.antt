-- Laws of a loop that appends the sets of a list one after the other. Assumes nothing.
use mathlib.Core.Path.{◌≡◌, sym, ap, ap₂, ◌∙◌}
use mathlib.Core.List.{List, [], ◌∷◌, ◌++◌}
use Prim.Native.Nat.{ℕ, ◌+◌, ◌≤◌, ◌<◌}
use native.Mathlib.Numerals.{add-one}
use lib.ListN.{length, get_or, take}
use lib.Seq.{take-suc, take_all}
use Rattle.bits.specs.declared.BitSet.{BitSet}
use Rattle.bits.specs.Numerals.{numeral, numerals}
use Rattle.bits.proofs.NumeralLaws.{numerals_append}

-- The list of numbers up to entry i, and that entry
pub take_next : (list : List ℕ) (i : ℕ) → i < length list → take (i + 1) list ≡ take i list ++ get_or list i 0 ∷ []
take_next list i within = ap (λ (n : ℕ). take n list) (add-one i) ∙ take-suc list i 0 within

-- One more appended
pub pushed : (sets : List BitSet) (x : BitSet) (list : List ℕ) (i : ℕ) → i < length list → numerals sets ≡ take i list → numeral x ≡ get_or list i 0
    → (after : List BitSet) → after ≡ sets ++ x ∷ [] → numerals after ≡ take (i + 1) list
pushed sets x list i within so_far entry after is_after =
    ap numerals is_after
    ∙ numerals_append sets x
    ∙ ap₂ (λ (l : List ℕ) (n : ℕ). l ++ n ∷ []) so_far entry
    ∙ sym (take_next list i within)

-- All appended
pub pushed_all : (now list : List ℕ) (i : ℕ) → length list ≤ i → now ≡ take i list → now ≡ list
pushed_all now list i all so_far = so_far ∙ take_all i list all
