-- One strip (document 01, "What each call leaves"): a part of the caller's stripe, and the verdict of the twin call.
use Rattle.std.specs.Prelude.{List, [], ◌∷◌, ℕ, ◌*◌, leb, length, take, drop}
use Rattle.codes.specs.Layouts.{symbols_of, first_symbol, height_of}
use Rattle.codes.specs.Lengths.{stripe_faults}
use Rattle.codes.specs.declared.Layout.{Layout}
use Rattle.refusals.specs.Orders.{Fault, ◌gets◌, and_then, if_fine, Outcome}
use Rattle.refusals.specs.Refusals.{◌at◌}
use Rattle.code_sheets.specs.CodeReading.{reading}

-- The layout of a code sheet that is not refused
abbrev pub layout_of : List ℕ → Layout
layout_of sheet = (reading sheet).code.layout

-- 7, 31, 32
abbrev pub strip_faults : Layout → ℕ → ℕ → ℕ → List Fault
strip_faults layout disk size stripe_bytes =
    (leb layout.disks disk gets 7 at 0) ∷ stripe_faults (symbols_of layout) size stripe_bytes

-- Refusals in the order code sheet, 7, 31, 32
unfoldable pub strip_verdict : List ℕ → ℕ → ℕ → ℕ → Outcome
strip_verdict sheet disk size stripe_bytes = and_then (reading sheet).verdict (strip_faults (layout_of sheet) disk size stripe_bytes)

-- The strip of a disk as a part of the stripe: it begins at the disk's first symbol
abbrev pub strip_of : Layout → ℕ → ℕ → List ℕ → List ℕ
strip_of layout disk size stripe = take (height_of layout disk * size) (drop (first_symbol layout disk * size) stripe)

-- The answer: that strip, and the empty part on a refusal
unfoldable pub strip_shown : List ℕ → ℕ → ℕ → List ℕ → List ℕ
strip_shown sheet disk size stripe =
    if_fine (strip_verdict sheet disk size (length stripe)) (strip_of (layout_of sheet) disk size stripe) []
