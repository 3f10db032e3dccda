-- Where look up finds what it shows. What a part is, and where one strip finds its own, is defined in `strips`, and passed on.
use Rattle.std.specs.Prelude.{true, false, cond, List, ℕ, ◌-◌, ◌*◌}
use Rattle.codes.specs.Layouts.{first_symbol, on_disk}
use Rattle.codes.specs.declared.Layout.{Layout}
use Rattle.refusals.specs.Orders.{if_fine}
use Rattle.strips.specs.declared.Part.{Part}
use Rattle.views.specs.Views.{layout_of, look_up_verdict}
pub use Rattle.strips.specs.Places.{slice_of, nowhere, Shows, strip_part}
unfoldable pub use Rattle.strips.specs.Places.{strip_place}

-- A symbol that survives lies in the stripe in its place, a lost one in the spare strip in its row
abbrev pub symbol_part : Layout → ℕ → ℕ → ℕ → Part
symbol_part layout disk size wanted =
    cond (on_disk layout disk wanted)
    (record { in_spare = true; start = (wanted - first_symbol layout disk) * size; length = size })
    (record { in_spare = false; start = wanted * size; length = size })

-- The answer: that part, and the part of no bytes on a refusal
unfoldable pub symbol_place : List ℕ → ℕ → ℕ → ℕ → ℕ → ℕ → Part
symbol_place sheet disk size stripe_bytes spare_bytes wanted =
    if_fine (look_up_verdict sheet disk size stripe_bytes spare_bytes wanted) (symbol_part (layout_of sheet) disk size wanted) nowhere
