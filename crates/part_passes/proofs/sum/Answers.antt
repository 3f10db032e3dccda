-- `part_passes::sum` meets its contract. Assumes nothing.
use Rattle.std.proofs.Common.{[], ℕ, List, ◌+◌, drop, get_or, sym, ap, ◌∙◌, arith, Bor}
use Rattle.std.proofs.lemmas.List.{length-map, get_or-map}
use Rattle.std.specs.Int.Bits.{bit_xor}
use Rattle.passes.specs.InnerSums.{summed_byte, part_bytes}
use Rattle.passes.proofs.SumLaws.{summed_byte_next, summed_byte_behind}
use Rattle.part_passes.proofs.LoopLaws.{lent}
use Rattle.part_passes.proofs.sum.Goals as goal

pub loop-part-preserved : goal.loop-part-preserved
loop-part-preserved c =
    let now = λ (part : Bor (List ℕ)). part.now in
    let parts = c.args.parts.now in
    let i = c.args.i in
    let here = c.loop-part.part-index in
    let part_is = get_or-map now parts here (record { ref_ptr = (0, 0); now = [] }) [] (omega arith) in
    let next =
    summed_byte_next (λ (part : List ℕ). get_or part i 0) (lent parts) here [] c.loop-part.sum (omega (arith, length-map parts now)) in
    ap (λ (part : List ℕ). summed_byte (bit_xor c.loop-part.sum (get_or part i 0)) (part_bytes i (drop (here + 1) (lent parts)))) (sym part_is) ∙ sym next ∙ c.loop-part.invariant

pub returns : goal.returns
returns c =
    let parts = c.args.parts.now in
    sym (summed_byte_behind (λ (part : List ℕ). get_or part c.args.i 0) (lent parts) c.loop-part.part-index c.loop-part.sum
    (omega (arith, length-map parts (λ (part : Bor (List ℕ)). part.now))))
    ∙ c.loop-part.invariant
