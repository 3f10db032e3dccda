-- What sums need of the array's strips.
use Rattle.std.specs.Prelude.{◌≡◌, ℕ, ◌^◌, ◌<◌, List, ◌==◌, slice_index}
use Rattle.bits.specs.BitSets.{has}
use Rattle.bits.specs.Numerals.{set_width}
use Rattle.codes.specs.declared.Layout.{Layout}
use Rattle.codes.specs.Layouts.{disk_of}

-- Of each disk of the array the set of its symbols
pub record Strips (layout : Layout) (strips : List ℕ) : Type 0 where
  pub of_disk : (disk s : ℕ) → disk < layout.disks → has (slice_index strips disk) s ≡ (disk_of layout s == disk)
  pub small : (disk : ℕ) → disk < layout.disks → slice_index strips disk < 2 ^ set_width
