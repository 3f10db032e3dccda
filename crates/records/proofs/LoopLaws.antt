-- Laws of loops over bytes: a digest and searches. Assumes nothing.
use Rattle.std.proofs.Common.{◌≡◌, refl, sym, ap, ◌∙◌, Bool, ◌||◌, ◌&&◌, List, [], ◌∷◌, ℕ, ◌+◌, ◌*◌, ◌%◌, ◌≤◌, ◌<◌, length, get_or, drop, replicate, add-one}
use Rattle.std.specs.List.{list_any, list_all}
use lib.Dec.{eqb}
use lib.ListN.{drop_of_length-le}
use lib.Seq.{drop-cons}
use Rattle.lists.specs.Lists.{listed, same}
use Rattle.records.specs.Records.{digest_from}

-- ------------------------------------------------------------------
-- The digest

module _ (bytes : List ℕ) (sum i : ℕ) (left : digest_from sum (drop i bytes) ≡ digest_from 0 bytes) where
  -- One more byte is counted
  pub digest_more : i < length bytes → digest_from ((sum * 257 + get_or bytes i 0 + 1) % 4294967291) (drop (i + 1) bytes) ≡ digest_from 0 bytes
  unfolding digest_from
  digest_more h =
      ap (λ (n : ℕ). digest_from ((sum * 257 + get_or bytes i 0 + 1) % 4294967291) (drop n bytes)) (add-one i)
      ∙ ap (digest_from sum) (sym (drop-cons bytes i 0 h))
      ∙ left

  -- All are
  pub digest_all : length bytes ≤ i → sum ≡ digest_from 0 bytes
  unfolding digest_from
  digest_all all = sym (ap (digest_from sum) (drop_of_length-le bytes all)) ∙ left

-- ------------------------------------------------------------------
-- Searches

-- Whether a number is listed is whether any byte is that number
pub listed_is_any : (number : ℕ) (bytes : List ℕ) → listed bytes number ≡ list_any (eqb number) bytes
unfolding listed
listed_is_any number [] = refl
listed_is_any number (byte ∷ bytes) = ap (λ (c : Bool). eqb number byte || c) (listed_is_any number bytes)

-- Whether bytes are as many zeros is whether all are zero
pub zeros_is_all : (bytes : List ℕ) → same bytes (replicate (length bytes) 0) ≡ list_all (λ byte. eqb byte 0) bytes
unfolding same
zeros_is_all [] = refl
zeros_is_all (byte ∷ bytes) = ap (λ (c : Bool). eqb byte 0 && c) (zeros_is_all bytes)
