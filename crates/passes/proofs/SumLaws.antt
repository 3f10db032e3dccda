-- Laws of the sum that a pass makes: its length, its bytes, and a sum cut in two. Assumes nothing.
use mathlib.Core.Path.{◌≡◌, refl, sym, ap, ◌∙◌}
use mathlib.Core.List.{List, [], ◌∷◌, ◌++◌, map, Memᴰ}
use Prim.Native.Nat.{ℕ, ◌+◌, ◌≤◌, ◌<◌}
use native.Mathlib.Numerals.{add-one}
use lib.Bits.{bit_xor}
use lib.ListN.{length, get_or, drop, drop_of_length-le}
use lib.Seq.{drop-cons}
use Rattle.std.specs.List.{All}
use Rattle.std.proofs.lemmas.List.Elements.{All-nil, All-cons, All-head, All-tail, All-get_or}
use Rattle.gf2.specs.Stripes.{symbol, SymbolWithin, xor_bytes}
use Rattle.gf2.proofs.SymbolLaws.{length_symbol, length_xor_bytes, get_or_xor_bytes}
use Rattle.passes.specs.InnerSums.{summed_parts, summed, EachWithin, summed_byte, part_bytes}

-- ------------------------------------------------------------------
-- Bytes

-- A byte with the bytes from a place on added to it: none behind the last
pub summed_byte_behind : {X : Type 0} (byte_of : X → ℕ) (list : List X) (place first : ℕ) → length list ≤ place
    → summed_byte first (map byte_of (drop place list)) ≡ first
unfolding summed_byte
summed_byte_behind byte_of list place first h = rw (drop_of_length-le list {i = place})

-- and the first of them is added first
pub summed_byte_next : {X : Type 0} (byte_of : X → ℕ) (list : List X) (place : ℕ) (d : X) (first : ℕ) → place < length list
    → summed_byte first (map byte_of (drop place list)) ≡ summed_byte (bit_xor first (byte_of (get_or list place d))) (map byte_of (drop (place + 1) list))
unfolding summed_byte
summed_byte_next byte_of list place d first h = rw (add-one, drop-cons list place d)

-- ------------------------------------------------------------------
-- Parts

module _ (L : ℕ) where
  -- A part has L bytes
  abbrev Whole : List ℕ → Type 0
  Whole part = length part ≡ L

  -- Each of some parts has
  abbrev pub EachOf : List (List ℕ) → Type 0
  EachOf parts = All Whole parts

  -- A part added to L bytes leaves L bytes
  length_with : (first part : List ℕ) → length first ≡ L → length part ≡ L → length (xor_bytes first part) ≡ L
  length_with first part e f = length_xor_bytes first part (e ∙ sym f) ∙ e

  -- A sum of parts has L bytes
  pub length_summed_parts : (first : List ℕ) (parts : List (List ℕ)) → length first ≡ L → EachOf parts → length (summed_parts first parts) ≡ L
  unfolding summed_parts
  length_summed_parts first [] e each = e
  length_summed_parts first (part ∷ parts) e each =
      length_summed_parts (xor_bytes first part) parts (length_with first part e (All-head Whole part parts each)) (All-tail Whole part parts each)

  -- Its byte i is the sum of theirs
  pub get_or_summed_parts : (i : ℕ) (first : List ℕ) (parts : List (List ℕ)) → length first ≡ L → EachOf parts
      → summed_byte (get_or first i 0) (part_bytes i parts) ≡ get_or (summed_parts first parts) i 0
  unfolding summed_parts summed_byte
  get_or_summed_parts i first [] e each = refl
  get_or_summed_parts i first (part ∷ parts) e each =
      let part_length : length part ≡ L = All-head Whole part parts each in
      ap (λ (x : ℕ). summed_byte x (part_bytes i parts)) (sym (get_or_xor_bytes first part (e ∙ sym part_length) i))
      ∙ get_or_summed_parts i (xor_bytes first part) parts (length_with first part e part_length) (All-tail Whole part parts each)

-- ------------------------------------------------------------------
-- Symbols

-- What holds of each member of a list holds of each entry
pub all_members : (P : ℕ → Type 0) (list : List ℕ) → ((s : ℕ) → Memᴰ s list → P s) → All P list
all_members P [] each = All-nil P
all_members P (s ∷ list) each = All-cons P s list (each s (Memᴰ.head refl)) (all_members P list (λ k m. each k (Memᴰ.tail m)))

-- Each of symbols that lie within so many bytes, by its place
pub entry_within : (L bytes : ℕ) (symbols : List ℕ) → EachWithin L bytes symbols → (place : ℕ) → place < length symbols
    → SymbolWithin L bytes (get_or symbols place 0)
entry_within L bytes symbols within place h = All-get_or (SymbolWithin L bytes) symbols place 0 h (all_members (SymbolWithin L bytes) symbols within)

module _ (L : ℕ) (bytes : List ℕ) where
  -- A symbol added to L bytes leaves L bytes
  pub length_added : (first : List ℕ) (s : ℕ) → length first ≡ L → SymbolWithin L (length bytes) s → length (xor_bytes first (symbol L bytes s)) ≡ L
  length_added first s e fits = length_with L first (symbol L bytes s) e (length_symbol L bytes s fits)

  -- Symbols that lie within the bytes have L bytes each
  pub symbols_whole : (sources : List ℕ) → EachWithin L (length bytes) sources → EachOf L (map (symbol L bytes) sources)
  symbols_whole [] within = All-nil (Whole L)
  symbols_whole (s ∷ sources) within = All-cons (Whole L) (symbol L bytes s) (map (symbol L bytes) sources) (length_symbol L bytes s (within s (Memᴰ.head refl))) (symbols_whole sources (λ k n. within k (Memᴰ.tail n)))

  -- A sum has L bytes
  pub length_summed : (first sources : List ℕ) → length first ≡ L → EachWithin L (length bytes) sources → length (summed L bytes first sources) ≡ L
  length_summed first sources e within = length_summed_parts L first (map (symbol L bytes) sources) e (symbols_whole sources within)

  -- Sources behind others are added to their sum
  pub summed_append : (first front back : List ℕ) → summed L bytes first (front ++ back) ≡ summed L bytes (summed L bytes first front) back
  unfolding summed_parts
  summed_append first [] back = refl
  summed_append first (s ∷ front) back = summed_append (xor_bytes first (symbol L bytes s)) front back
