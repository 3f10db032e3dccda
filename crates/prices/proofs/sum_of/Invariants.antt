-- The invariant of `prices::sum_of`: the charges to come, added to the sum so far, come to the whole sum.
use Rattle.std.proofs.Common.{◌≡◌, ℕ, ◌-◌, List, get_or}
use lib.Bits.{bit_and}
use lib.Ieee.{Float}
use Rattle.bits.specs.BitSets.{count}
use Rattle.bits.specs.Numerals.{numeral, numerals}
use Rattle.prices.specs.Prices.{charge, state_of, add_charges}
use Rattle.prices.specs.declared.DiskState.{DiskState}
use Rattle.prices.proofs.sum_of.Given as goal

-- The charges by strips
abbrev pub charges : List DiskState → List ℕ → ℕ → ℕ → Float
charges states strips read disk = charge (state_of states disk) (count (bit_and read (get_or strips disk 0)))

abbrev pub invariant-loop-disk : goal.invariant-loop-disk
invariant-loop-disk l =
    let all = charges l.states (numerals l.strips) (numeral l.read) in
    add_charges all l.disk (l.fn.layout.disks - l.disk) l.sum ≡ add_charges all 0 l.fn.layout.disks l.initial.sum
