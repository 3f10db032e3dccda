-- How much is gone (document 02, §9): "d patterns, each of whose stripes is zero on every survivor, such that, for symbols of one bit, two valid stripes
-- agreeing on the survivors always differ on the wanted symbols by the XOR of the images of exactly one subset of the d patterns."
-- A symbol of one bit is a byte 0 or 1 here, and a stripe of such symbols is the encoding, with one byte a symbol, of data that are bits.
use Rattle.std.specs.Prelude.{◌≡◌, Bool, true, List, map, ℕ, ◌^◌, ◌<◌, length, get_or}
use Rattle.std.specs.Int.Bits.{bit_xor}
use Rattle.gf2.specs.Plans.{AgreeOn}
use Rattle.gf2.specs.Selection.{select}
use Rattle.gf2.specs.Stripes.{encoding, pattern_stripe, zero_stripe, SameSymbols}

-- Every element is a bit
abbrev pub AreBits : List ℕ → Type 0
AreBits bits = (i : ℕ) → get_or bits i 0 < 2

-- For symbols of one bit, a stripe is valid if some K data symbols give it
pub record ValidBits (data_symbols : ℕ) (rows stripe : List ℕ) : Type 0 where
  pub contents : List ℕ
  pub contents_length : length contents ≡ data_symbols
  pub contents_bits : AreBits contents
  pub gives : stripe ≡ encoding 1 data_symbols rows contents

-- The image of a pattern on symbol s: what its stripe has there
abbrev pub image : ℕ → List ℕ → ℕ → ℕ → ℕ
image data_symbols rows s pattern = get_or (pattern_stripe 1 data_symbols rows pattern) s 0

-- The XOR of the images on symbol s of those patterns that a subset has: bit i stands for pattern i
abbrev pub image_sum : ℕ → List ℕ → List ℕ → ℕ → ℕ → ℕ
image_sum data_symbols rows patterns subset s = select (map (image data_symbols rows s) patterns) subset

-- Two stripes differ on the wanted symbols by the XOR of the images of a subset
abbrev pub DifferBy : ℕ → List ℕ → (ℕ → Bool) → List ℕ → List ℕ → List ℕ → ℕ → Type 0
DifferBy data_symbols rows wanted patterns x y subset =
    (s : ℕ) → wanted s ≡ true → bit_xor (get_or x s 0) (get_or y s 0) ≡ image_sum data_symbols rows patterns subset s

-- They do so by exactly one subset; the subsets of d patterns are the numbers of d bits
pub record DifferByOne (data_symbols : ℕ) (rows : List ℕ) (wanted : ℕ → Bool) (patterns x y : List ℕ) : Type 0 where
  pub subset : ℕ
  pub of_patterns : subset < 2 ^ length patterns
  pub differ : DifferBy data_symbols rows wanted patterns x y subset
  pub only : (other : ℕ) → other < 2 ^ length patterns → DifferBy data_symbols rows wanted patterns x y other → other ≡ subset

-- What these patterns say is gone of the wanted symbols, when the known ones survive
pub record Gone (data_symbols : ℕ) (rows : List ℕ) (known wanted : ℕ → Bool) (patterns : List ℕ) : Type 0 where
  -- each has K bits
  pub bits : (i : ℕ) → i < length patterns → get_or patterns i 0 < 2 ^ data_symbols
  -- and each one's stripe is zero on every survivor, whatever the symbol length
  pub zero_on_survivors : (i : ℕ) → i < length patterns → (L : ℕ)
      → SameSymbols L known (pattern_stripe L data_symbols rows (get_or patterns i 0)) (zero_stripe L (length rows))
  -- for symbols of one bit, two valid stripes agreeing on the survivors differ on the wanted symbols by exactly one subset
  pub exactly_one : (x y : List ℕ) → ValidBits data_symbols rows x → ValidBits data_symbols rows y → AgreeOn known x y
      → DifferByOne data_symbols rows wanted patterns x y
