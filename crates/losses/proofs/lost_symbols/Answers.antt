-- `losses::lost_symbols` meets its contract. Assumes nothing.
use mathlib.Core.Path.{◌≡◌, sym, ap, ◌∙◌, subst}
use mathlib.Core.Bool.{◌&&◌}
use Prim.Native.Nat.{ℕ, ◌<◌}
use native.Mathlib.Omega.{arith}
use lib.Bits.{or_lt}
use lib.Dec.{eqb, ltb}
use lib.ListN.{get_or}
use lib.Pow.{pow_pos}
use Rattle.codes.specs.Layouts.{symbols_of, disk_of}
use Rattle.bits.specs.BitSets.{has}
use Rattle.bits.specs.Numerals.{set_width, numeral}
use Rattle.losses.proofs.LossLaws.{strip_inside, none_lost, strip_joins, all_lost}
use Rattle.losses.proofs.lost_symbols.Goals as goal

pub loop-disk-init : goal.loop-disk-init
loop-disk-init c =
    let args = c.args in
    (λ s. rw c.empty-gone.ensures (none_lost args.layout args.disks.now s), rw c.empty-gone.ensures (pow_pos set_width))

pub strip_of-requires : goal.strip_of-requires
strip_of-requires c =
    let next_below : c.from.result < c.args.layout.disks = subst (λ (disk : ℕ). disk < c.args.layout.disks) (sym c.from.ensures) (c.requires.1 c.loop-disk.disk-index c.loop-disk-test.true) in
    (c.requires.0, next_below)

pub loop-disk-preserved : goal.loop-disk-preserved
loop-disk-preserved c =
    let next_below : c.from.result < c.args.layout.disks = subst (λ (disk : ℕ). disk < c.args.layout.disks) (sym c.from.ensures) (c.requires.1 c.loop-disk.disk-index c.loop-disk-test.true) in
    let args = c.args in
    let loop = c.loop-disk in
    let strip = c.strip_of in
    let disk = c.from.ensures in
    let strip_is : (s : ℕ) → has (numeral strip.result) s ≡ (ltb s (symbols_of args.layout) && eqb (disk_of args.layout s) (get_or args.disks.now loop.disk-index 0)) =
    λ s.
    strip.ensures.strip s
    ∙ strip_inside args.layout c.requires.0.height_from c.from.result (next_below) s
    ∙ ap (λ (d : ℕ). ltb s (symbols_of args.layout) && eqb (disk_of args.layout s) d) disk in (
      strip_joins args.layout args.disks.now loop.disk-index c.loop-disk-test.true (numeral loop.gone) (numeral strip.result) loop.invariant.0 strip_is c.union-gone.ensures,
      rw c.union-gone.ensures (or_lt set_width (numeral loop.gone) (numeral strip.result) loop.invariant.1 strip.ensures.small),
    )

pub returns : goal.returns
returns c =
    let args = c.args in
    let loop = c.loop-disk in
    record { lost = all_lost args.layout args.disks.now loop.disk-index (omega arith) (numeral loop.gone) loop.invariant.0; small = loop.invariant.1 }
