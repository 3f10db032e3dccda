-- Laws of the parts of a record, of the product and of a part that is filled. Assumes nothing.
use mathlib.Core.Path.{◌≡◌, sym, ap, ap₂, ◌∙◌}
use mathlib.Core.Bool.{Bool, cond, ◌&&◌}
use mathlib.Core.List.{List, [], ◌++◌, append_assoc}
use Prim.Native.Nat.{ℕ, ◌-◌, ◌≤◌, ◌<◌}
use lib.Dec.{leb}
use lib.ListN.{length, take, drop}
use borrow.Rule.Slice.PartMut.{mid_of, put_mid, mid_len, Post-is}
use borrow.Author.Tests.{le-leb, lt-leb}
use Rattle.records.specs.Records.{front, seeded, filled_part}

-- ------------------------------------------------------------------
-- The first bytes

module _ (count : ℕ) (bytes : List ℕ) where
  -- There are as many as asked
  pub front_whole : count ≤ length bytes → take count bytes ≡ front count bytes
  unfolding front
  front_whole h = sym (ap (λ (c : Bool). cond c (take count bytes) []) (le-leb count (length bytes) h))

  -- There are fewer
  pub front_none : length bytes < count → [] ≡ front count bytes
  unfolding front
  front_none h = sym (ap (λ (c : Bool). cond c (take count bytes) []) (lt-leb count (length bytes) h))

-- ------------------------------------------------------------------
-- A part that is filled

module _ (start end seed : ℕ) (buffer : List ℕ) where
  -- The buffer with the part filled
  filled : List ℕ
  filled = take start buffer ++ seeded (end - start) seed ++ drop end buffer

  -- What is filled as a part is put back in its place
  pub part_filled : start ≤ end → end ≤ length buffer → {part : List ℕ} → part ≡ seeded (length (mid_of start (end - start) buffer)) seed
      → put_mid start (end - start) buffer part ≡ filled_part start end seed buffer
  unfolding filled_part filled
  part_filled within room e =
      ap₂ (λ (a b : List ℕ). take start buffer ++ (a ++ b)) (e ∙ ap (λ (n : ℕ). seeded n seed) (mid_len start end buffer room)) (Post-is start end buffer within)
      ∙ sym (append_assoc (take start buffer) (seeded (end - start) seed) (drop end buffer))
      ∙ sym (ap₂ (λ (a b : Bool). cond (a && b) filled buffer) (le-leb start end within) (le-leb end (length buffer) room))

  -- Where the start is behind the end, the buffer stays
  pub part_turned : end < start → buffer ≡ filled_part start end seed buffer
  unfolding filled_part filled
  part_turned h = sym (ap (λ (c : Bool). cond (c && leb end (length buffer)) filled buffer) (lt-leb start end h))

  -- So it does where the part ends behind it
  pub part_beyond : start ≤ end → length buffer < end → buffer ≡ filled_part start end seed buffer
  unfolding filled_part filled
  part_beyond within h = sym (ap₂ (λ (a b : Bool). cond (a && b) filled buffer) (le-leb start end within) (lt-leb end (length buffer) h))
