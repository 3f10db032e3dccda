-- Equations among survivors (document 02, §8): sets of surviving symbols whose rows sum to zero. They are right: whatever data the survivors come from,
-- the symbols of an equation sum to zero. They are enough: survivors that meet all of them come from some data.
use Rattle.std.specs.Prelude.{◌≡◌, Bool, true, List, ℕ, ◌<◌, length, get_or}
use Rattle.bits.specs.BitSets.{has}
use Rattle.gf2.specs.Plans.{Within}
use Rattle.gf2.specs.Selection.{select}
use Rattle.gf2.specs.Stripes.{AreBytes}

-- One byte a symbol: the known ones come from K bytes of data
pub record ComeFromData (data_symbols : ℕ) (rows : List ℕ) (known : ℕ → Bool) (values : List ℕ) : Type 0 where
  pub contents : List ℕ
  pub contents_length : length contents ≡ data_symbols
  pub contents_bytes : AreBytes contents
  pub gives : (s : ℕ) → known s ≡ true → select contents (get_or rows s 0) ≡ get_or values s 0

-- The symbols of each equation sum to zero
abbrev pub MeetsAll : List ℕ → List ℕ → Type 0
MeetsAll equations values = (e : ℕ) → e < length equations → select values (get_or equations e 0) ≡ 0

-- Equations among the known symbols that are right and enough
pub record EquationsAmong (data_symbols : ℕ) (rows : List ℕ) (known : ℕ → Bool) (equations : List ℕ) : Type 0 where
  -- each is a set of known symbols whose rows sum to zero
  pub among_known : (e : ℕ) → e < length equations → Within (has (get_or equations e 0)) known
  pub rows_sum_to_zero : (e : ℕ) → e < length equations → select rows (get_or equations e 0) ≡ 0
  -- right: symbols that come from data meet them
  pub right : (values : List ℕ) → ComeFromData data_symbols rows known values → MeetsAll equations values
  -- enough: bytes that meet them come from data
  pub enough : (values : List ℕ) → AreBytes values → MeetsAll equations values → ComeFromData data_symbols rows known values
