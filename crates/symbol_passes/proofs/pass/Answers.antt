-- `symbol_passes::pass` meets its contract. Assumes nothing.
use Rattle.std.proofs.Common.{arith}
use Rattle.symbol_passes.proofs.LoopLaws.{sum_more, sum_all}
use Rattle.symbol_passes.proofs.pass.Goals as goal

pub loop-i-preserved : goal.loop-i-preserved
loop-i-preserved g c =
    let args = c.args in
    let asked = c.requires in (
      c.loop-i.invariant.0,
      λ start starts. sum_more args.size args.stripe.now args.target asked.target_within args.sources asked.sources_within _ args.source start starts
          c.loop-i.stripe c.loop-i.i _ _ _ _ (omega arith) (c.loop-i.invariant.1 start starts) c.symbol_byte-own.ensures c.symbol_byte-other.ensures
          c.begin.ensures c.sum.ensures,
    )

pub returns : goal.returns
returns g c =
    let args = c.args in
    let asked = c.requires in
    λ start starts. sum_all args.size args.stripe.now args.target asked.target_within args.sources asked.sources_within _ args.source start starts
    c.loop-i.stripe c.loop-i.i (omega arith) (c.loop-i.invariant.1 start starts)
