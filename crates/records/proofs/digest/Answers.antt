-- `records::digest` meets its contract, and its sums fit. Assumes nothing.
use Rattle.std.proofs.Common.{refl, arith}
use Rattle.records.proofs.LoopLaws.{digest_more, digest_all}
use Rattle.records.proofs.digest.Goals as goal

pub loop-byte-init : goal.loop-byte-init
loop-byte-init c = (omega arith, refl)

pub loop-byte-preserved : goal.loop-byte-preserved
loop-byte-preserved c =
    let bytes = c.args.bytes.now in
    let loop = c.loop-byte in
    (omega arith, rw c.from.ensures (digest_more bytes loop.sum loop.byte-index loop.invariant.1 (omega arith)))

pub returns : goal.returns
returns c = digest_all c.args.bytes.now c.loop-byte.sum c.loop-byte.byte-index c.loop-byte.invariant.1 (omega arith)
