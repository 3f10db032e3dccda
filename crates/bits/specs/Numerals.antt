-- The number of a set: the one whose binary digits are its elements. What is said of sets is said of their numbers, whatever holds them.
use Rattle.std.specs.Prelude.{List, [], ◌∷◌, ◌++◌, ℕ, ◌-◌, length, replicate}
use Rattle.std.specs.Int.Bits.{bit_xor}
use Rattle.bits.specs.BitSets.{has}
use Rattle.bits.specs.Lists.{first_from}
use Rattle.bits.specs.declared.BitSet.{BitSet}

-- How many elements a set can have, and how many sets an array has
abbrev pub set_width : ℕ
set_width = 64

-- The set without an element
abbrev pub empty_set : BitSet
empty_set = record { word = 0 }

-- The number of a set
unfoldable pub numeral : BitSet → ℕ
numeral set = set.word

-- The numbers of several sets
unfoldable pub numerals : List BitSet → List ℕ
numerals [] = []
numerals (set ∷ sets) = numeral set ∷ numerals sets

-- The lowest element that one of two sets has and the other lacks; the width where they are equal
unfoldable pub first_difference : ℕ → ℕ → ℕ
first_difference a b = first_from (has (bit_xor a b)) 0 set_width

-- The numbers of an array that begins with these sets: those behind them are empty
unfoldable pub padded : List ℕ → List ℕ
padded list = list ++ replicate (set_width - length list) 0
