-- The invariant of `lists::set_of`: the set has the entries passed.
use Rattle.std.proofs.Common.{◌≡◌, ℕ, take}
use Rattle.bits.specs.BitSets.{has}
use Rattle.bits.specs.Numerals.{numeral}
use Rattle.lists.specs.Lists.{listed}
use Rattle.lists.proofs.set_of.Given as goal

abbrev pub invariant-loop-entry : goal.invariant-loop-entry
invariant-loop-entry l = (s : ℕ) → has (numeral l.set) s ≡ listed (take l.entry-index l.list) s
