-- What a pass makes: some bytes, and others added to them, XOR byte by byte.
use mathlib.Core.List.{List, [], ◌∷◌, map, Memᴰ}
use Rattle.std.specs.Prelude.{ℕ, ◌+◌, ◌*◌, get_or}
use Rattle.std.specs.Int.Bits.{bit_xor}
use Rattle.gf2.specs.Stripes.{symbol, SymbolWithin, xor_bytes}

-- Some bytes, and parts of as many bytes added to them, one after the other
unfoldable pub summed_parts : List ℕ → List (List ℕ) → List ℕ
summed_parts first [] = first
summed_parts first (part ∷ parts) = summed_parts (xor_bytes first part) parts

-- What is left of a symbol when others are added to it
abbrev pub summed : ℕ → List ℕ → List ℕ → List ℕ → List ℕ
summed L bytes first sources = summed_parts first (map (symbol L bytes) sources)

-- Each of some symbols lies within so many bytes
abbrev pub EachWithin : ℕ → ℕ → List ℕ → Type 0
EachWithin L bytes symbols = (s : ℕ) → Memᴰ s symbols → SymbolWithin L bytes s

-- A byte, and others added to it
unfoldable pub summed_byte : ℕ → List ℕ → ℕ
summed_byte first [] = first
summed_byte first (byte ∷ bytes) = summed_byte (bit_xor first byte) bytes

-- Byte i of each of some parts
abbrev pub part_bytes : ℕ → List (List ℕ) → List ℕ
part_bytes i parts = map (λ (part : List ℕ). get_or part i 0) parts

-- Byte i of each of some symbols
abbrev pub symbol_bytes : ℕ → List ℕ → ℕ → List ℕ → List ℕ
symbol_bytes L bytes i sources = map (λ (s : ℕ). get_or bytes (s * L + i) 0) sources
