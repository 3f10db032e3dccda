-- `fewest::spread` meets its contract. Assumes nothing.
use mathlib.Core.Path.{ap, ◌∙◌}
use Prim.Native.Nat.{◌^◌}
use native.Mathlib.Omega.{arith}
use lib.ListN.{length}
use Rattle.bits.specs.Numerals.{numerals}
use Rattle.bits.proofs.NumeralLaws.{length_numerals, get_or_numerals, numerals_set}
use Rattle.fewest.proofs.BoundLaws.{images_spread}
use Rattle.fewest.proofs.spread.Goals as goal
use Rattle.fewest.proofs.spread.Goals.{then-own-lt-SET_WIDTH, else-own-lt-SET_WIDTH}

pub loop-i-init : goal.loop-i-init
loop-i-init c = λ rows taken given. given

pub loop-i-preserved : goal.loop-i-preserved
loop-i-preserved c =
    let loop = c.loop-i in
    let count = length c.args.images.now in
    λ rows taken given.
    elim c.if-own-lt-SET_WIDTH.branch [
      | then-own-lt-SET_WIDTH w ↦
          rw (ap numerals w.images-is ∙ numerals_set w.reduce.new.images loop.i _)
          (images_spread rows taken count (numerals loop.images) (numerals w.reduce.new.images) loop.i (2 ^ c.lowest_from-own.result) (omega arith)
          (omega (arith, length_numerals w.reduce.new.images))
          (λ j h. rw (get_or_numerals loop.images loop.i) at (w.reduce.ensures j (omega arith))) (get_or_numerals loop.images loop.i) (loop.invariant rows taken given))
      | else-own-lt-SET_WIDTH w ↦ rw (ap numerals w.images-is) (loop.invariant rows taken given)
    ]
