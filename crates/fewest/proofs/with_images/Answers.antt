-- `fewest::with_images` meets its contract. Assumes nothing.
use native.Mathlib.Omega.{arith}
use Rattle.bits.proofs.NumeralLaws.{get_or_numerals}
use Rattle.fewest.proofs.with_images.Goals as goal

pub loop-image-preserved : goal.loop-image-preserved
loop-image-preserved c =
    let loop = c.loop-image in
    λ taken other meets needed.
    c.with_image-more.ensures taken other (rw (get_or_numerals c.args.images.now loop.image-index) (meets loop.image-index (omega arith))) (loop.invariant taken other meets needed)
