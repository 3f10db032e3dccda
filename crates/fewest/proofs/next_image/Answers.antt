-- `fewest::next_image` meets its contract. Assumes nothing.
use mathlib.Core.Path.{sym, ap, ◌∙◌}
use mathlib.Core.Bool.{true≢false}
use Prim.Native.Nat.{ℕ}
use native.Mathlib.Omega.{arith}
use lib.Dec.{eqb}
use Rattle.std.specs.Option.{is_some}
use Rattle.bits.specs.Numerals.{numeral, numerals}
use Rattle.bits.proofs.NumeralLaws.{length_numerals, get_or_numerals}
use Rattle.fewest.proofs.LoopLaws.{next_start, next_found, next_kept, next_passed, next_all}
use Rattle.fewest.proofs.next_image.Goals as goal
use Rattle.fewest.proofs.next_image.Goals.{then-not-is_empty+then-is_none, then-not-is_empty+else-is_none+else-choices-fewest, else-not-is_empty}

pub loop-i-init : goal.loop-i-init
loop-i-init c = next_start (numerals c.args.images.now) (numeral c.args.wanted)

pub loop-i-preserved : goal.loop-i-preserved
loop-i-preserved c =
    let a = c.args in
    let loop = c.loop-i in
    let images = numerals a.images.now in
    let wanted = numeral a.wanted in
    let image = get_or_numerals a.images.now loop.i in
    let test = c.is_empty.ensures ∙ ap (λ (x : ℕ). eqb x 0) c.common.ensures in
    elim c.if-not-is_empty.branch [
      | then-not-is_empty+then-is_none w ↦ next_found images wanted loop.i (omega (arith, length_numerals a.images.now)) c.requires image (sym test ∙ w.if-not-is_empty.true) w.next-is
      | then-not-is_empty+else-is_none+else-choices-fewest w ↦ next_kept images wanted loop.i loop.next loop.invariant (λ none. true≢false (sym (w.if-is_none.ensures) ∙ ap is_some none)) w.next-is
      | else-not-is_empty w ↦ next_passed images wanted loop.i loop.next loop.invariant image (sym test ∙ w.if-not-is_empty.false) w.next-is
    ]

pub returns : goal.returns
returns c =
    let loop = c.loop-i in
    let images = length_numerals c.args.images.now in
    next_all loop.next loop.invariant images (omega arith)
