-- Laws of a part that shows what it should: the same bytes as a slice from its start to its end. Assumes nothing.
use mathlib.Core.Path.{◌≡◌, refl, ap, ◌∙◌}
use mathlib.Core.Bool.{Bool, true, false, cond}
use mathlib.Core.List.{List}
use Prim.Native.Nat.{ℕ, ◌+◌, ◌-◌, ◌<◌}
use native.Mathlib.Omega.{arith}
use lib.ListN.{length, take, drop}
use borrow.Rule.Slice.PartAt.{part_count}
use Rattle.refusals.specs.Orders.{Outcome, Fine}
use Rattle.strips.specs.Places.{after, beginning, Shows}
use Rattle.strips.specs.declared.Part.{Part}

-- From its start to its end a part shows the bytes, and where nothing is refused there are some
pub part_shown : {part : Part} {slice shown : List ℕ} {verdict : Outcome} → Shows part slice shown verdict
    → (take (part.start + part.length - part.start) (drop part.start slice) ≡ shown)
    × (verdict ≡ Fine → 0 < length (take (part.start + part.length - part.start) (drop part.start slice)))
part_shown {part} {slice} shows =
    let whole : part.start + part.length - part.start ≡ part.length = omega arith in (
      ap (λ (n : ℕ). take n (drop part.start slice)) whole ∙ shows.bytes,
      λ fine.
          omega
          (arith, part_count slice part.start (part.start + part.length) (omega arith, shows.within), shows.exactly.1 fine),
    )

-- Where both slices are one, a part begins in that
pub begins_in_one : (slice : ℕ × ℕ) (part : Part) {place : Part} → part ≡ place → after part.start slice ≡ beginning place slice slice
begins_in_one slice part same = by_slice part.in_spare ∙ ap (λ (p : Part). beginning p slice slice) same
  where
    by_slice : (lost : Bool) → after part.start slice ≡ after part.start (cond lost slice slice)
    by_slice true = refl
    by_slice false = refl
