-- `prices::strips_of` meets its contract. Assumes nothing.
use Rattle.std.proofs.Common.{ℕ, ◌+◌, ◌<◌, length, sym, ap, ◌∙◌, subst, arith, length-set}
use Rattle.bits.specs.Numerals.{numeral, numerals}
use Rattle.bits.proofs.NumeralLaws.{numerals_set}
use Rattle.prices.proofs.PriceLaws.{StripsTo, strip_stored}
use Rattle.prices.proofs.strips_of.Goals as goal

pub loop-disk-init : goal.loop-disk-init
loop-disk-init c = (ap length c.empty_sets-strips.ensures, λ disk below. absurd (omega arith))

pub strip_of-requires : goal.strip_of-requires
strip_of-requires c = (c.requires, c.loop-disk-test.true)

pub bounds-strips-disk : goal.bounds-strips-disk
bounds-strips-disk c = omega (arith, c.requires.disks_to)

pub loop-disk-preserved : goal.loop-disk-preserved
loop-disk-preserved c =
    let loop = c.loop-disk in
    let layout = c.args.layout in
    let within : loop.disk < length (numerals loop.strips) = omega (arith, loop.invariant.0, c.requires.disks_to, c.loop-disk-test.true) in
    let stored = numerals_set loop.strips loop.disk c.strip_of.result in (
      ap length stored ∙ length-set (numerals loop.strips) loop.disk (numeral c.strip_of.result) ∙ loop.invariant.0,
      subst (StripsTo layout (loop.disk + 1)) (sym stored) (strip_stored layout loop.disk (numerals loop.strips) (numeral c.strip_of.result) within loop.invariant.1 c.strip_of.ensures.strip c.strip_of.ensures.small),
    )

pub returns : goal.returns
returns c =
    let all : (disk : ℕ) → disk < c.args.layout.disks → disk < c.loop-disk.disk = λ disk below. omega arith in
    record {
      of_disk = λ disk s below. (c.loop-disk.invariant.1 disk (all disk below)).0 s;
      small = λ disk below. (c.loop-disk.invariant.1 disk (all disk below)).1;
    }
