-- `fewest::with_pairs` meets its contract. Assumes nothing.
use mathlib.Core.Path.{ap, ap₂, ◌∙◌}
use Prim.Native.Nat.{◌<◌}
use native.Mathlib.Omega.{arith}
use lib.Bits.{bit_xor}
use lib.Seq.{get_or-take, length-take-le}
use Rattle.bits.specs.Numerals.{empty_set, numeral}
use Rattle.bits.proofs.NumeralLaws.{get_or_numerals}
use Rattle.fewest.proofs.with_pairs.Goals as goal

pub loop-other-preserved : goal.loop-other-preserved
loop-other-preserved c =
    let inner = c.loop-other in
    let loop = c.loop-i in
    let images = c.args.images.now in
    let before : inner.other-index < loop.i = omega (arith, length-take-le loop.i images (omega arith)) in
    let sums = c.sum.ensures ∙ ap₂ bit_xor (get_or_numerals images loop.i) (ap numeral (get_or-take loop.i images inner.other-index empty_set before) ∙ get_or_numerals images inner.other-index) in
    λ taken other meets needed.
    c.with_image-more.ensures taken other (rw sums (meets loop.i inner.other-index (omega arith) (omega arith))) (inner.invariant taken other meets needed)

pub loop-i-preserved : goal.loop-i-preserved
loop-i-preserved c =
    let loop = c.loop-i in
    λ taken other meets needed. c.loop-other.invariant taken other meets (loop.invariant taken other meets needed)
