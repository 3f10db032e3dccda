-- The invariant of `prices::strips_of`: the strips of the disks before `disk` are stored.
use Rattle.std.proofs.Common.{◌≡◌, length}
use Rattle.bits.specs.Numerals.{set_width, numerals}
use Rattle.prices.proofs.PriceLaws.{StripsTo}
use Rattle.prices.proofs.strips_of.Given as goal

abbrev pub invariant-loop-disk : goal.invariant-loop-disk
invariant-loop-disk l = (length (numerals l.strips) ≡ set_width) × StripsTo l.layout l.disk (numerals l.strips)
