-- The limits of a code (document 01, "When the desk says no"): refusal 5, beyond a limit, and refusal 6, a stray bit.
use Rattle.std.specs.Prelude.{Bool, ◌&&◌, List, [], ◌∷◌, ℕ, ◌*◌, ◌/◌, ◌%◌, ltb, leb, get_or}
use Rattle.bits.specs.BitSets.{has}
use Rattle.bits.specs.Lists.{first_from}
use Rattle.refusals.specs.Orders.{Fault, ◌gets◌}
use Rattle.refusals.specs.Refusals.{◌at◌}

-- n is 2 to 64, r 1 to 32, N at most 64, K 1 to 64
abbrev pub limit_faults : ℕ → ℕ → ℕ → List Fault
limit_faults disks height data_symbols =
    (ltb disks 2 gets 5 at 0)
    ∷ (ltb 64 disks gets 5 at 0)
    ∷ (ltb height 1 gets 5 at 0)
    ∷ (ltb 32 height gets 5 at 0)
    ∷ (ltb 64 (disks * height) gets 5 at 0)
    ∷ (ltb data_symbols 1 gets 5 at 0)
    ∷ (ltb 64 data_symbols gets 5 at 0)
    ∷ []

-- A place is row times 64 plus bit. It has a stray bit if that bit is at K or above and is set
unfoldable pub stray_at : List ℕ → ℕ → ℕ → Bool
stray_at rows data_symbols place = leb data_symbols (place % 64) && has (get_or rows (place / 64) 0) (place % 64)

-- The first stray bit of so many rows; the place behind the last row where there is none
abbrev pub first_stray : List ℕ → ℕ → ℕ → ℕ
first_stray rows count data_symbols = first_from (stray_at rows data_symbols) 0 (count * 64)

-- A bit at K or above is set
abbrev pub stray_fault : List ℕ → ℕ → ℕ → Fault
stray_fault rows count data_symbols =
    ltb (first_stray rows count data_symbols) (count * 64) gets 6 at first_stray rows count data_symbols
