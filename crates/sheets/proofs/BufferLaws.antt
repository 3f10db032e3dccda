-- Laws of what is written into a lent buffer, from a place on or at the front. Assumes nothing.
use mathlib.Core.Path.{◌≡◌, sym, ap, ap₂, ◌∙◌}
use mathlib.Core.List.{List, [], ◌++◌, append_assoc}
use Prim.Native.Nat.{ℕ, ◌+◌, ◌≤◌}
use native.Mathlib.Nat.{zero-add}
use native.Mathlib.Omega.{arith}
use lib.ListN.{length, take, drop, length-append, length-drop}
use lib.Seq.{take_at, drop-append-add, drop-drop, length-take-le, paste-zero}
use Rattle.sheets.specs.Buffers.{at_front, from_place}

-- Where nothing is written the buffer is as it was
pub from_place_nothing : (at : ℕ) (buffer : List ℕ) → buffer ≡ from_place at [] buffer
from_place_nothing at buffer = paste-zero buffer at []

-- The buffer keeps its length
pub length_from_place : (at : ℕ) (written buffer : List ℕ) → at + length written ≤ length buffer → length (from_place at written buffer) ≡ length buffer
length_from_place at written buffer room =
    omega (
      arith,
      length-append (take at buffer ++ written) (drop (at + length written) buffer),
      length-append (take at buffer) written,
      length-take-le at buffer (omega arith),
      length-drop (at + length written) buffer,
    )

module _ (at : ℕ) (front more lent : List ℕ) (room : at ≤ length lent) where
  abbrev behind : ℕ
  behind = at + length front

  length_written : length (take at lent ++ front) ≡ behind
  length_written = omega (arith, length-append (take at lent) front, length-take-le at lent room)

  drop_behind_more : drop (behind + length more) (from_place at front lent) ≡ drop (at + length (front ++ more)) lent
  drop_behind_more =
      let both : behind + length more ≡ at + length (front ++ more) = omega (arith, length-append front more) in
      ap (λ (n : ℕ). drop (n + length more) (from_place at front lent)) (sym length_written)
      ∙ drop-append-add (take at lent ++ front) (drop behind lent) (length more)
      ∙ drop-drop (length more) behind lent
      ∙ ap (λ (n : ℕ). drop n lent) both

  -- Bytes from a place on and others written behind them are one piece
  pub from_place_append : from_place behind more (from_place at front lent) ≡ from_place at (front ++ more) lent
  from_place_append =
      ap₂ (λ (a b : List ℕ). a ++ more ++ b) (take_at (take at lent ++ front) (drop behind lent) behind length_written) drop_behind_more
      ∙ ap (λ (b : List ℕ). b ++ drop (at + length (front ++ more)) lent) (append_assoc (take at lent) front more)

-- At the front is from place 0 on
front_is_place : (written buffer : List ℕ) → at_front written buffer ≡ from_place 0 written buffer
front_is_place written buffer = ap (λ (n : ℕ). written ++ drop n buffer) (sym (zero-add (length written)))

-- Bytes at the front and others written behind them are one front
pub at_front_append : (front more lent : List ℕ) → from_place (length front) more (at_front front lent) ≡ at_front (front ++ more) lent
at_front_append front more lent =
    ap₂ (λ (n : ℕ) (b : List ℕ). from_place n more b) (sym (zero-add (length front))) (front_is_place front lent)
    ∙ from_place_append 0 front more lent (omega arith)
    ∙ sym (front_is_place (front ++ more) lent)
