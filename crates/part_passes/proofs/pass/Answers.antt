-- `part_passes::pass` meets its contract. Assumes nothing.
use Rattle.std.proofs.Common.{length, arith}
use Rattle.part_passes.proofs.LoopLaws.{lent, lent_whole, sum_more, sum_all}
use Rattle.part_passes.proofs.pass.Goals as goal

pub loop-i-preserved : goal.loop-i-preserved
loop-i-preserved g c =
    let args = c.args in
    let whole = lent_whole (length args.target.now) args.parts.now c.requires.parts_whole in (
      c.loop-i.invariant.0,
      λ start starts. sum_more args.target.now (lent args.parts.now) whole _ args.first.now start starts c.loop-i.target c.loop-i.i _ _
          (omega arith) (c.loop-i.invariant.1 start starts) c.begin.ensures c.sum.ensures,
    )

pub returns : goal.returns
returns g c =
    let args = c.args in
    let whole = lent_whole (length args.target.now) args.parts.now c.requires.parts_whole in
    λ start starts. sum_all args.target.now (lent args.parts.now) whole _ args.first.now start starts c.loop-i.target c.loop-i.i
    (omega arith) (c.loop-i.invariant.1 start starts)
