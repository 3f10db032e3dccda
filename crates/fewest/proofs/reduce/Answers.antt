-- `fewest::reduce` meets its contract. Assumes nothing.
use mathlib.Core.Path.{sym, ap, ◌∙◌}
use Prim.Native.Nat.{ℕ, ◌^◌}
use native.Mathlib.Omega.{arith}
use lib.Bits.{bit_xor}
use lib.ListN.{get_or}
use lib.Seq.{set-get_or}
use Rattle.bits.specs.Numerals.{empty_set, numeral, numerals}
use Rattle.bits.proofs.NumeralLaws.{length_numerals, get_or_numerals, numerals_set}
use Rattle.gf2.specs.InnerElimination.{reduce_pattern}
use Rattle.fewest.proofs.ImageLaws.{odd_if_has, even_if_lacks}
use Rattle.fewest.proofs.LoopLaws.{mapped_none, mapped_next, mapped_stored, mapped_kept, mapped_entry, reduced_odd, reduced_even}
use Rattle.fewest.proofs.reduce.Goals as goal
use Rattle.fewest.proofs.reduce.Goals.{then-has, else-has}

pub loop-image-init : goal.loop-image-init
loop-image-init c = mapped_none (reduce_pattern (numeral c.args.pivot) (2 ^ c.args.element)) (numerals c.args.images.now)

pub loop-image-preserved : goal.loop-image-preserved
loop-image-preserved c =
    let a = c.args in
    let pivot = numeral a.pivot in
    let unit = 2 ^ a.element in
    let f = reduce_pattern pivot unit in
    let old = numerals a.images.now in
    let loop = c.loop-image in
    let at = loop.image-index in
    let now = numerals loop.image-items in
    let next = mapped_next f old now at loop.invariant in
    let entry = get_or_numerals loop.image-items at ∙ next in
    let test = rw entry at c.has.ensures in
    elim c.if-has.branch [
      | then-has w ↦
          rw (ap numerals w.image-items-is ∙ numerals_set loop.image-items at w.sum.result)
          (mapped_stored f old now at loop.invariant (omega (arith, length_numerals loop.image-items))
          (w.sum.ensures ∙ ap (λ (x : ℕ). bit_xor x pivot) entry ∙ sym (reduced_odd pivot unit (get_or old at 0) (odd_if_has _ _ (sym test ∙ w.if-has.true)))))
      | else-has w ↦
          rw (ap numerals (w.image-items-is ∙ set-get_or loop.image-items at empty_set))
          (mapped_kept f old now at loop.invariant (sym (reduced_even pivot unit (get_or old at 0) (even_if_lacks _ _ (sym test ∙ w.if-has.false)))))
    ]

pub returns : goal.returns
returns c =
    let a = c.args in
    let loop = c.loop-image in
    λ i h. mapped_entry (reduce_pattern (numeral a.pivot) (2 ^ a.element)) (numerals a.images.now) (numerals loop.image-items) loop.image-index loop.invariant i (omega arith)
