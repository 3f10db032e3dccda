-- Numbers as decimal text in ASCII codes: no leading zeros, and 0 is "0".
use Rattle.std.specs.Prelude.{cond, List, [], ◌∷◌, ◌++◌, ℕ, zero, suc, ◌+◌, ◌/◌, ◌%◌, ltb}

-- The code of a digit below 10
abbrev pub digit : ℕ → ℕ
digit value = 48 + value

-- The digits of a number, of which at most so many stand before the last
unfoldable pub digits : ℕ → ℕ → List ℕ
digits zero number = digit number ∷ []
digits (suc more) number = cond (ltb number 10) (digit number ∷ []) (digits more (number / 10) ++ (digit (number % 10) ∷ []))

-- All its digits, since a number has no more of them before the last than it counts
unfoldable pub decimal : ℕ → List ℕ
decimal number = digits number number

-- A label and the number behind it
unfoldable pub labelled : List ℕ → ℕ → List ℕ
labelled label number = label ++ decimal number
