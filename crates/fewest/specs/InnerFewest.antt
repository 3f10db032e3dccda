-- Sets of symbols that are enough for the wanted ones, and the search for one of the fewest.
use Rattle.std.specs.Prelude.{◌≡◌, Bool, true, false, ◌&&◌, ◌||◌, List, ◌⊎◌, ℕ, ◌+◌, ◌^◌, ◌≤◌, ◌<◌, get_or}
use Rattle.std.specs.Int.Bits.{bit_and, bit_xor}
use Rattle.bits.specs.BitSets.{has, overlap}
use Rattle.bits.specs.Lists.{count_from}
use Rattle.bits.specs.Numerals.{set_width, numeral}
use Rattle.bits.specs.declared.BitSet.{BitSet}
use Rattle.fewest.specs.declared.Disjoint.{Disjoint}
use Rattle.gf2.specs.Plans.{Within}
use Rattle.gf2.specs.Selection.{select}

-- ------------------------------------------------------------------
-- Enough, and the fewest

-- A pattern overlaps the row of every symbol of the set evenly: its stripe is zero there
abbrev pub EvenOnSet : List ℕ → (ℕ → Bool) → ℕ → Type 0
EvenOnSet rows set pattern = (s : ℕ) → set s ≡ true → overlap pattern (get_or rows s 0) ≡ 0

-- The set is enough for the wanted symbols: a pattern whose stripe is zero on the set has a stripe that is zero on the wanted symbols
abbrev pub Enough : List ℕ → (ℕ → Bool) → (ℕ → Bool) → Type 0
Enough rows wanted set = (pattern : ℕ) → EvenOnSet rows set pattern → EvenOnSet rows wanted pattern

-- How many symbols a set has
abbrev pub size : (ℕ → Bool) → ℕ
size set = count_from set 0 set_width

-- What is chosen of the known symbols by a search of so many branchings at most: enough where all of them are, all of them where they are not, and, where
-- the branchings are as many as the known symbols have subsets, no more than any set of them that is enough
pub record Fewest (rows : List ℕ) (known wanted : ℕ → Bool) (branchings : ℕ) (chosen : ℕ → Bool) : Type 0 where
  pub within : Within chosen known
  pub enough : Enough rows wanted known → Enough rows wanted chosen
  pub otherwise : (Enough rows wanted known → ⊥) → (s : ℕ) → chosen s ≡ known s
  pub least : 2 ^ size known ≤ branchings → (other : ℕ → Bool) → Within other known → Enough rows wanted other → size chosen ≤ size other

-- ------------------------------------------------------------------
-- The search

-- A set shares nothing with an image
abbrev pub Avoids : ℕ → (ℕ → Bool) → Type 0
Avoids image set = (s : ℕ) → set s ≡ true → overlap image (2 ^ s) ≡ 0

-- The image of some pattern: the symbols on which it shows
pub record Image (rows : List ℕ) (image : ℕ) : Type 0 where
  pub pattern : ℕ
  pub shows : (s : ℕ) → overlap image (2 ^ s) ≡ overlap pattern (get_or rows s 0)

-- What the first `count` images are once some symbols are taken: images of patterns, they avoid what is taken, and what they all overlap evenly
-- is a sum of rows that the taken symbols decide
pub record Images (rows : List ℕ) (taken : ℕ → Bool) (count : ℕ) (images : List ℕ) : Type 0 where
  pub shown : (i : ℕ) → i < count → Image rows (get_or images i 0)
  pub avoid : (i : ℕ) → i < count → Avoids (get_or images i 0) taken
  pub decide : (v : ℕ) → ((i : ℕ) → i < count → overlap (get_or images i 0) v ≡ 0)
      → (pattern : ℕ) → EvenOnSet rows taken pattern → overlap pattern (select rows v) ≡ 0

-- The column of a data symbol: the symbols whose rows have its bit
abbrev pub IsColumn : List ℕ → ℕ → ℕ → Type 0
IsColumn rows bit set = (s : ℕ) → has set s ≡ has (get_or rows s 0) bit

-- What the images are, they still are
abbrev pub KeepsImages : ℕ → List ℕ → List ℕ → Type 0
KeepsImages count before after = (rows : List ℕ) (taken : ℕ → Bool) → Images rows taken count before → Images rows taken count after

-- A set of elements below the width
abbrev pub OfWidth : BitSet → Type 0
OfWidth set = numeral set < 2 ^ set_width

-- The symbols of either set
abbrev pub either : ℕ → ℕ → ℕ → Bool
either a b s = has a s || has b s

-- What a search finds that has taken some symbols and may take others, where `best` was found before: that, or a set with the taken symbols that is enough;
-- and, if some branchings are left, no more than any such set has
pub record Searched (rows : List ℕ) (wanted taken allowed best found left : ℕ) : Type 0 where
  pub good : (found ≡ best) ⊎ (Within (has found) (either taken allowed) × Enough rows (has wanted) (has found))
  pub no_more : size (has found) ≤ size (has best)
  pub least : 1 ≤ left → (other : ℕ → Bool) → Within (has taken) other → Within other (either taken allowed) → Enough rows (has wanted) other
      → size (has found) ≤ size other

-- ------------------------------------------------------------------
-- A bound for the search: images that have a wanted symbol and share no symbol that may be taken need a symbol each

-- A set meets an image that has a wanted symbol in a symbol that may be taken; the image avoids what is taken
pub record Meets (wanted allowed : ℕ) (taken other : ℕ → Bool) (image : ℕ) : Type 0 where
  pub met : (bit_and image wanted ≡ 0 → ⊥) → 1 ≤ size (λ s. other s && has (bit_and image allowed) s)
  pub apart : Avoids image taken

-- So many symbols of a set are among the used ones, none of which is taken
pub record Needed (taken other : ℕ → Bool) (used found : ℕ) : Type 0 where
  pub counted : found ≤ size (λ s. other s && has used s)
  pub untaken : (s : ℕ) → taken s ≡ true → has used s ≡ false

-- A set meets each of so many images
abbrev pub MeetsEach : ℕ → ℕ → ℕ → List ℕ → (ℕ → Bool) → (ℕ → Bool) → Type 0
MeetsEach wanted allowed count images taken other = (i : ℕ) → i < count → Meets wanted allowed taken other (get_or images i 0)

-- and each sum of two of them
abbrev pub MeetsEachSum : ℕ → ℕ → ℕ → List ℕ → (ℕ → Bool) → (ℕ → Bool) → Type 0
MeetsEachSum wanted allowed count images taken other =
    (i j : ℕ) → i < count → j < count → Meets wanted allowed taken other (bit_xor (get_or images i 0) (get_or images j 0))

-- With more images, of those that a set meets, what is found to be needed of it still is
abbrev pub StillNeeded : ((ℕ → Bool) → (ℕ → Bool) → Type 0) → Disjoint → Disjoint → Type 0
StillNeeded Met earlier later =
    (taken other : ℕ → Bool) → Met taken other → Needed taken other (numeral earlier.used) earlier.found → Needed taken other (numeral later.used) later.found

-- Any set that is enough, with what is taken and otherwise only what may be, has so many symbols besides what is taken
abbrev pub NeededBesides : ℕ → List ℕ → ℕ → ℕ → ℕ → Type 0
NeededBesides count images wanted allowed needed =
    (rows : List ℕ) (taken other : ℕ → Bool) → Images rows taken count images → Enough rows (has wanted) other → Within other (λ s. taken s || has allowed s) → Within taken other
    → needed + size taken ≤ size other
