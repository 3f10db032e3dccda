-- The invariant of `losses::lost_symbols`: the set has the symbols of the disks passed.
use mathlib.Core.Path.{◌≡◌}
use mathlib.Core.Bool.{◌&&◌}
use Prim.Native.Nat.{ℕ, ◌^◌, ◌<◌}
use lib.Dec.{ltb}
use lib.ListN.{take}
use Rattle.codes.specs.Layouts.{symbols_of, disk_of}
use Rattle.bits.specs.BitSets.{has}
use Rattle.bits.specs.Numerals.{set_width, numeral}
use Rattle.lists.specs.Lists.{listed}
use Rattle.losses.proofs.lost_symbols.Given as goal

abbrev pub invariant-loop-disk : goal.invariant-loop-disk
invariant-loop-disk l = ((s : ℕ) → has (numeral l.gone) s ≡ (ltb s (symbols_of l.layout) && listed (take l.disk-index l.disks) (disk_of l.layout s))) × (numeral l.gone < 2 ^ set_width)
