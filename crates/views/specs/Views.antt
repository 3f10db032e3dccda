-- Look up (document 01, "What each call leaves"): a part of one of the caller's two slices, and the verdict of the twin call. One strip is
-- defined in `strips`, and passed on.
use Rattle.std.specs.Prelude.{cond, List, [], ◌∷◌, ◌++◌, ℕ, ◌-◌, leb, length}
use Rattle.codes.specs.Layouts.{symbols_of, first_symbol, height_of, on_disk}
use Rattle.codes.specs.Lengths.{length_fault}
use Rattle.codes.specs.declared.Layout.{Layout}
use Rattle.gf2.specs.Stripes.{symbol}
use Rattle.refusals.specs.Orders.{Fault, ◌gets◌, and_then, if_fine, Outcome}
use Rattle.refusals.specs.Refusals.{◌at◌}
use Rattle.code_sheets.specs.CodeReading.{reading}
use Rattle.strips.specs.Strips.{strip_faults}
pub use Rattle.strips.specs.Strips.{layout_of}
unfoldable pub use Rattle.strips.specs.Strips.{strip_verdict, strip_shown}

-- 7, 31, 32, 35, 38
abbrev pub look_up_faults : Layout → ℕ → ℕ → ℕ → ℕ → ℕ → List Fault
look_up_faults layout disk size stripe_bytes spare_bytes wanted =
    strip_faults layout disk size stripe_bytes
    ++ length_fault spare_bytes (height_of layout disk) size (35 at 0)
    ∷ (leb (symbols_of layout) wanted gets 38 at 0)
    ∷ []

-- Refusals in the order code sheet, 7, 31, 32, 35, 38
unfoldable pub look_up_verdict : List ℕ → ℕ → ℕ → ℕ → ℕ → ℕ → Outcome
look_up_verdict sheet disk size stripe_bytes spare_bytes wanted =
    and_then (reading sheet).verdict (look_up_faults (layout_of sheet) disk size stripe_bytes spare_bytes wanted)

-- A symbol that survives is shown from the stripe, a lost one from the spare strip
abbrev pub symbol_of : Layout → ℕ → ℕ → List ℕ → List ℕ → ℕ → List ℕ
symbol_of layout disk size stripe spare wanted =
    cond (on_disk layout disk wanted) (symbol size spare (wanted - first_symbol layout disk)) (symbol size stripe wanted)

-- The answer: that symbol, and the empty part on a refusal
unfoldable pub symbol_shown : List ℕ → ℕ → ℕ → List ℕ → List ℕ → ℕ → List ℕ
symbol_shown sheet disk size stripe spare wanted =
    if_fine (look_up_verdict sheet disk size (length stripe) (length spare) wanted)
    (symbol_of (layout_of sheet) disk size stripe spare wanted)
    []
