-- Laws of the loop over a target's bytes: each turn sets one byte, the last leaves the whole. Assumes nothing.
use mathlib.Core.Path.{◌≡◌, sym, ap, ◌∙◌}
use mathlib.Core.List.{List, map}
use Prim.Native.Nat.{ℕ, ◌+◌, ◌≤◌, ◌<◌}
use native.Mathlib.Omega.{arith}
use lib.ListN.{length, get_or, set}
use Rattle.std.specs.List.{All}
use Rattle.std.proofs.Common.{Bor}
use Rattle.std.proofs.lemmas.List.Elements.{All-map}
use Rattle.bits.proofs.StoreLaws.{overwritten, overwritten_next, overwritten_more, overwritten_all}
use Rattle.gf2.specs.Stripes.{symbol}
use Rattle.passes.specs.InnerStarts.{Starts}
use Rattle.passes.specs.InnerSums.{summed_parts, summed, summed_byte, part_bytes}
use Rattle.passes.proofs.SumLaws.{EachOf, length_summed_parts, get_or_summed_parts}

-- The bytes of parts that are lent
abbrev pub lent : List (Bor (List ℕ)) → List (List ℕ)
lent parts = map (λ part. part.now) parts

-- Parts that are lent have so many bytes each
pub lent_whole : (L : ℕ) (parts : List (Bor (List ℕ))) → All (λ part. length part.now ≡ L) parts → EachOf L (lent parts)
lent_whole L parts each = All-map (λ (part : List ℕ). length part ≡ L) (λ (part : Bor (List ℕ)). part.now) parts each

-- Where the parts handed on are the symbols that a pass names, it sums those symbols
pub handed_on : (L : ℕ) (bytes sources : List ℕ) (parts : List (List ℕ)) (start : List ℕ) → parts ≡ map (symbol L bytes) sources
    → summed_parts start parts ≡ summed L bytes start sources
handed_on L bytes sources parts start e = ap (summed_parts start) e

module _ (old : List ℕ) (parts : List (List ℕ)) (each : EachOf (length old) parts) (makes : ℕ → ℕ → ℕ → Type 0) (first start : List ℕ)
    (starts : Starts makes old first start) where
  -- What a pass leaves
  abbrev total : List ℕ
  total = summed_parts start parts

  -- It is as long as the target
  length_total : length total ≡ length old
  length_total = length_summed_parts (length old) start parts starts.whole each

  -- One more byte
  pub sum_more : (now : List ℕ) (i byte x : ℕ) → i < length old → now ≡ overwritten old total i → makes (get_or now i 0) (get_or first i 0) byte
      → x ≡ summed_byte byte (part_bytes i parts) → set now i x ≡ overwritten old total (i + 1)
  sum_more now i byte x h e made x_is =
      let kept : get_or now i 0 ≡ get_or old i 0 =
      ap (λ (l : List ℕ). get_or l i 0) e ∙ overwritten_next old total (omega (arith, length_total)) i (omega (arith, length_total)) in
      overwritten_more old total (omega (arith, length_total)) now i x (omega (arith, length_total)) e
      (x_is ∙ ap (λ (b : ℕ). summed_byte b (part_bytes i parts)) (starts.each i byte h (rw (sym kept) made))
      ∙ get_or_summed_parts (length old) i start parts starts.whole each)

  -- All bytes
  pub sum_all : (now : List ℕ) (i : ℕ) → length old ≤ i → now ≡ overwritten old total i → now ≡ total
  sum_all now i h e = overwritten_all old total now i (sym length_total) e (omega (arith, length_total))
