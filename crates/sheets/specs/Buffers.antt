-- Lent buffers (document 01, "What each call leaves").
use Rattle.std.specs.Prelude.{List, ◌++◌, ℕ, ◌+◌, length, take, drop}

-- What is written stands at the front of the buffer; the bytes behind it stay
abbrev pub at_front : List ℕ → List ℕ → List ℕ
at_front written buffer = written ++ drop (length written) buffer

-- What is written stands in the buffer from a place on; the bytes before it and behind it stay
abbrev pub from_place : ℕ → List ℕ → List ℕ → List ℕ
from_place at written buffer = take at buffer ++ written ++ drop (at + length written) buffer
