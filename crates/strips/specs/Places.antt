-- Where a call finds what it shows: which of the caller's slices, from which byte on, how many bytes; and that of one strip. A caller who gets
-- no part of his slices, as over the C interface, finds the same bytes by it.
use Rattle.std.specs.Prelude.{◌≡◌, false, cond, List, ◌↔◌, ℕ, ◌+◌, ◌*◌, ◌≤◌, ◌<◌, length, take, drop}
use Rattle.codes.specs.Layouts.{first_symbol, height_of}
use Rattle.codes.specs.declared.Layout.{Layout}
use Rattle.refusals.specs.Orders.{if_fine, Outcome, Fine}
use Rattle.strips.specs.Strips.{layout_of, strip_verdict}
use Rattle.strips.specs.declared.Part.{Part}

-- The slice that a part lies in
abbrev pub slice_of : Part → List ℕ → List ℕ → List ℕ
slice_of part stripe spare = cond part.in_spare spare stripe

-- The bytes of a slice that a part covers
abbrev pub covered : Part → List ℕ → List ℕ
covered part slice = take part.length (drop part.start slice)

-- A place in memory is a block and a byte of it; so many bytes after such a place
abbrev pub after : ℕ → ℕ × ℕ → ℕ × ℕ
after bytes place = (place.0, bytes + place.1)

-- Where a part begins in memory, by where the two slices begin: it is the caller's own memory, not a copy
abbrev pub beginning : Part → ℕ × ℕ → ℕ × ℕ → ℕ × ℕ
beginning part stripe spare = after part.start (cond part.in_spare spare stripe)

-- The part of no bytes
abbrev pub nowhere : Part
nowhere = record { in_spare = false; start = 0; length = 0 }

-- A part of a slice shows these bytes: it ends within the slice, covers them, and has bytes exactly if nothing is refused
pub record Shows (part : Part) (slice shown : List ℕ) (verdict : Outcome) : Type 0 where
  pub within : part.start + part.length ≤ length slice
  pub bytes : covered part slice ≡ shown
  pub exactly : (0 < part.length) ↔ (verdict ≡ Fine)

-- The strip of a disk begins at the disk's first symbol
abbrev pub strip_part : Layout → ℕ → ℕ → Part
strip_part layout disk size = record { in_spare = false; start = first_symbol layout disk * size; length = height_of layout disk * size }

-- The answer: that part, and the part of no bytes on a refusal
unfoldable pub strip_place : List ℕ → ℕ → ℕ → ℕ → Part
strip_place sheet disk size stripe_bytes =
    if_fine (strip_verdict sheet disk size stripe_bytes) (strip_part (layout_of sheet) disk size) nowhere
