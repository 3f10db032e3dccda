-- Disks that cost more to read (document 02, §14), their prices: "a disk is away, or idle at a price per symbol, or busy at a price and a factor, as 64-bit
-- floats; prices 0 to 1,000,000, factors 1 to 64, anything else refused with 42 at the lowest such disk ..; states for disks from n on aren't looked at. A
-- disk's charge is its read symbols times price, then times factor if busy; charges are added in disk order from zero, each operation rounded once, and the
-- sum is fixed to the bit."
use Rattle.std.specs.Prelude.{ℕ, zero, suc, Bool, true, false, not, ◌&&◌, List, pos, ◌==◌, slice_index_or, Float}
use Rattle.std.specs.Float.{binary64}
use Rattle.std.specs.Float.Ieee.{of_int, mul, add, le}
use Rattle.bits.specs.Lists.{count_from, first_from}
use Rattle.codes.specs.declared.Layout.{Layout}
use Rattle.codes.specs.Layouts.{symbols_of, disk_of}
use Rattle.prices.specs.declared.DiskState.{DiskState}
use Rattle.prices.specs.declared.DiskState.TheVariants.{Away, Idle, Busy}

-- A whole number as a 64-bit float
abbrev pub float : ℕ → Float
float number = of_int binary64 (pos number)

-- Two floats multiplied and added, rounded once
abbrev pub times : Float → Float → Float
times a b = mul binary64 a b

abbrev pub plus : Float → Float → Float
plus a b = add binary64 a b

-- ------------------------------------------------------------------
-- States

-- The state of a disk
abbrev pub state_of : List DiskState → ℕ → DiskState
state_of states disk = slice_index_or states disk Away

-- Whether it is away
abbrev pub is_away : DiskState → Bool
is_away Away = true
is_away (Idle price) = false
is_away (Busy price factor) = false

-- Prices 0 to 1,000,000. What is no number is neither above nor below another; the negative zero is 0
unfoldable pub is_price : Float → Bool
is_price price = le (float 0) price && le price (float 1000000)

-- Factors 1 to 64
unfoldable pub is_factor : Float → Bool
is_factor factor = le (float 1) factor && le factor (float 64)

-- Whether a disk can be in a state; "anything else refused with 42"
abbrev pub is_state : DiskState → Bool
is_state Away = true
is_state (Idle price) = is_price price
is_state (Busy price factor) = is_price price && is_factor factor

-- The lowest of so many disks that can't be in its state; their number where there is no such disk
abbrev pub first_bad_state : List DiskState → ℕ → ℕ
first_bad_state states disks = first_from (λ disk. not (is_state (state_of states disk))) 0 disks

-- ------------------------------------------------------------------
-- Charges

-- A disk's charge: its read symbols times price, then times factor if busy. Nothing is read of a disk that is away
abbrev pub charge : DiskState → ℕ → Float
charge Away reads = float 0
charge (Idle price) reads = times (float reads) price
charge (Busy price factor) reads = times (times (float reads) price) factor

-- How many of the symbols that are read lie on a disk
abbrev pub reads_on : Layout → (ℕ → Bool) → ℕ → ℕ
reads_on layout read disk = count_from (λ s. read s && disk_of layout s == disk) 0 (symbols_of layout)

-- The charges of `count` disks from `first` on, added one after the other to a sum
unfoldable pub add_charges : (ℕ → Float) → ℕ → ℕ → Float → Float
add_charges charges first zero sum = sum
add_charges charges first (suc count) sum = add_charges charges (suc first) count (plus sum (charges first))

-- The sum for the symbols that are read: charges are added in disk order from zero
unfoldable pub sum_of : Layout → List DiskState → (ℕ → Bool) → Float
unfolding add_charges
sum_of layout states read = add_charges (λ disk. charge (state_of states disk) (reads_on layout read disk)) 0 layout.disks (float 0)
