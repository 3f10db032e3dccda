-- `prices::sum_of` meets its contract. Assumes nothing.
use Rattle.std.proofs.Common.{◌+◌, ◌-◌, ◌<◌, ap, ◌∙◌, arith}
use native.Mathlib.Nat.{sub-zero}
use lib.Bits.{bit_and}
use lib.Ieee.{Float}
use Rattle.bits.specs.BitSets.{count}
use Rattle.bits.specs.Numerals.{numeral, numerals}
use Rattle.bits.proofs.NumeralLaws.{get_or_numerals}
use Rattle.prices.specs.Prices.{charge, state_of, plus, add_charges, sum_of}
use Rattle.prices.proofs.PriceLaws.{zero_is, charge_added, charges_all, charges_alike, reads_counted}
use Rattle.prices.proofs.sum_of.Invariants.{charges}
use Rattle.prices.proofs.sum_of.Goals as goal

pub loop-disk-init : goal.loop-disk-init
loop-disk-init c = rw sub-zero

pub offset_bounds-states-disk : goal.offset_bounds-states-disk
offset_bounds-states-disk c = omega (arith, c.requires.0.disks_to)

pub bounds-states-disk : goal.bounds-states-disk
bounds-states-disk c = omega (arith, c.requires.0.disks_to)

pub offset_bounds-strips-disk : goal.offset_bounds-strips-disk
offset_bounds-strips-disk c = omega (arith, c.requires.0.disks_to)

pub bounds-strips-disk : goal.bounds-strips-disk
bounds-strips-disk c = omega (arith, c.requires.0.disks_to)

pub loop-disk-preserved : goal.loop-disk-preserved
loop-disk-preserved c =
    let a = c.args in
    let loop = c.loop-disk in
    let taken = c.loop-disk-test.true in
    let all = charges a.states.now (numerals a.strips.now) (numeral a.read) in
    let reads = c.count-reads.ensures ∙ ap count (c.common.ensures ∙ ap (bit_and (numeral a.read)) (get_or_numerals a.strips.now loop.disk)) in
    ap (λ (x : Float). add_charges all (loop.disk + 1) (a.layout.disks - (loop.disk + 1)) (plus loop.sum x)) (c.charge-sum.ensures ∙ ap (charge (state_of a.states.now loop.disk)) reads)
    ∙ charge_added all a.layout.disks loop.disk loop.sum taken
    ∙ loop.invariant

pub returns : goal.returns
unfolding sum_of
returns c =
    let a = c.args in
    let pre = c.requires in
    let loop = c.loop-disk in
    let all = charges a.states.now (numerals a.strips.now) (numeral a.read) in
    charges_all all a.layout.disks loop.disk loop.sum c.loop-disk-test.false
    ∙ loop.invariant
    ∙ ap (add_charges all 0 a.layout.disks) zero_is
    ∙ charges_alike all _ a.layout.disks 0 _
    (λ disk within.
    let below : disk < a.layout.disks = omega arith in
    ap (charge (state_of a.states.now disk))
    (reads_counted a.layout pre.0 disk below (numeral a.read) _ (λ s. pre.1.of_disk disk s below) (pre.1.small disk below)))
