-- `symbol_passes::sum` meets its contract. Assumes nothing.
use Rattle.std.proofs.Common.{ℕ, ◌+◌, ◌*◌, length, get_or, sym, ◌∙◌, arith}
use Rattle.passes.proofs.SumLaws.{entry_within, summed_byte_next, summed_byte_behind}
use Rattle.symbol_passes.proofs.sum.Goals as goal

pub symbol_byte-sum-requires : goal.symbol_byte-sum-requires
symbol_byte-sum-requires c = (entry_within c.args.size (length c.args.stripe.now) c.args.sources.now c.requires.0 c.loop-s.s-index (omega arith), c.requires.1)

pub loop-s-preserved : goal.loop-s-preserved
loop-s-preserved c =
    let args = c.args in
    let byte_of = λ (s : ℕ). get_or args.stripe.now (s * args.size + args.i) 0 in
    rw c.symbol_byte-sum.ensures (sym (summed_byte_next byte_of args.sources.now c.loop-s.s-index 0 c.loop-s.sum (omega arith)) ∙ c.loop-s.invariant)

pub returns : goal.returns
returns c =
    let args = c.args in
    let byte_of = λ (s : ℕ). get_or args.stripe.now (s * args.size + args.i) 0 in
    sym (summed_byte_behind byte_of args.sources.now c.loop-s.s-index c.loop-s.sum (omega arith)) ∙ c.loop-s.invariant
