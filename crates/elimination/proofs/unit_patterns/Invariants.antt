-- The invariant of `elimination::unit_patterns`: the units of the bits before `bit` are in the list.
use mathlib.Core.Path.{◌≡◌}
use lib.ListN.{length, take}
use Rattle.bits.specs.Numerals.{numerals}
use Rattle.gf2.specs.InnerElimination.{units}
use Rattle.elimination.proofs.unit_patterns.Given as goal

abbrev pub invariant-loop-bit : goal.invariant-loop-bit
invariant-loop-bit l = record { count : length l.patterns.items ≡ l.bit; so_far : numerals l.patterns.items ≡ take l.bit (units l.width) }
