-- Laws of the numbers of a list of sets: its length, its entries, a set stored or appended, the first of them, and the length of an array. Assumes nothing.
use mathlib.Core.Path.{◌≡◌, refl, ap}
use mathlib.Core.List.{List, [], ◌∷◌, ◌++◌}
use Prim.Native.Nat.{ℕ, zero, suc}
use lib.ListN.{length, get_or, set, take, drop, replicate}
use borrow.Kind.Array.{good_length, e_struct}
use denote.Array.{Array}
use denote.Laws.{Is}
use denote.Struct.Declared.{row}
use mir.Val.{Val}
use Rattle.bits.specs.declared.BitSet.{BitSet}
use Rattle.bits.specs.Numerals.{empty_set, numeral, numerals, set_width}
use Rattle.bits.specs.contracts.BitSet.{the_type}
use Rattle.bits.proofs.BitSet.TheLaws.{the_laws, the_copy}

pub length_numerals : (sets : List BitSet) → length (numerals sets) ≡ length sets
unfolding numerals
length_numerals [] = refl
length_numerals (x ∷ xs) = ap suc (length_numerals xs)

-- The entries' numbers
pub get_or_numerals : (sets : List BitSet) (i : ℕ) → numeral (get_or sets i empty_set) ≡ get_or (numerals sets) i 0
unfolding numeral numerals
get_or_numerals [] zero = refl
get_or_numerals [] (suc i) = refl
get_or_numerals (x ∷ xs) zero = refl
get_or_numerals (x ∷ xs) (suc i) = get_or_numerals xs i

-- A set stored
pub numerals_set : (sets : List BitSet) (i : ℕ) (x : BitSet) → numerals (set sets i x) ≡ set (numerals sets) i (numeral x)
unfolding numerals
numerals_set [] zero x = refl
numerals_set [] (suc i) x = refl
numerals_set (y ∷ ys) zero x = refl
numerals_set (y ∷ ys) (suc i) x = ap (λ (ns : List ℕ). numeral y ∷ ns) (numerals_set ys i x)

-- A set appended
pub numerals_append : (sets : List BitSet) (x : BitSet) → numerals (sets ++ x ∷ []) ≡ numerals sets ++ numeral x ∷ []
unfolding numerals
numerals_append [] x = refl
numerals_append (y ∷ ys) x = ap (λ (ns : List ℕ). numeral y ∷ ns) (numerals_append ys x)

pub numerals_replicate : (count : ℕ) (x : BitSet) → numerals (replicate count x) ≡ replicate count (numeral x)
unfolding numerals
numerals_replicate zero x = refl
numerals_replicate (suc count) x = ap (λ (ns : List ℕ). numeral x ∷ ns) (numerals_replicate count x)

-- The first sets' numbers
pub numerals_take : (count : ℕ) (sets : List BitSet) → numerals (take count sets) ≡ take count (numerals sets)
unfolding numerals
numerals_take zero sets = refl
numerals_take (suc count) [] = refl
numerals_take (suc count) (x ∷ xs) = ap (λ (ns : List ℕ). numeral x ∷ ns) (numerals_take count xs)

-- The numbers of the sets behind them
pub numerals_drop : (count : ℕ) (sets : List BitSet) → numerals (drop count sets) ≡ drop count (numerals sets)
unfolding numerals
numerals_drop zero sets = refl
numerals_drop (suc count) [] = refl
numerals_drop (suc count) (x ∷ xs) = numerals_drop count xs

-- An array that a function is handed holds as many sets as its type says
pub array_length : (sets : List BitSet) (vs : List Val) → Is (Array (row the_type) set_width) sets vs → length sets ≡ set_width
array_length sets vs good = good_length (e_struct the_type the_laws the_copy) set_width sets vs good
