-- `fewest::symbols_needed` meets its contract: of images and sums that share no symbol each needs one. Assumes nothing.
use lib.ListN.{length}
use Rattle.bits.specs.Numerals.{numeral, numerals}
use Rattle.fewest.proofs.BoundLaws.{needed_none, needed_besides, image_meets, sum_meets}
use Rattle.fewest.proofs.symbols_needed.Goals as goal

pub returns : goal.returns
returns c =
    let args = c.args in
    let images = args.images.now in
    λ rows taken other given enough within has_taken.
    let meets = image_meets rows (numeral args.wanted) (numeral args.allowed) c.requires.0 c.requires.1 taken other (length images) (numerals images) given enough within in
    let sums = sum_meets rows (numeral args.wanted) (numeral args.allowed) c.requires.0 c.requires.1 taken other (length images) (numerals images) given enough within in
    let alone = c.with_images-alone.ensures taken other meets (needed_none _ c.empty.ensures) in
    needed_besides (c.with_images-all.ensures taken other meets (c.with_pairs-pairs.ensures taken other sums alone)) has_taken
