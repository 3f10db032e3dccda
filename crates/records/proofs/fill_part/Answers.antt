-- `records::fill_part` meets its contract. Assumes nothing.
use Rattle.std.proofs.Common.{arith}
use Rattle.records.proofs.PartLaws.{part_filled, part_turned, part_beyond}
use Rattle.records.proofs.fill_part.Goals as goal
use Rattle.records.proofs.fill_part.Goals.{else-start-end-via-then-start-end+else-end-buffer, else-start-end-via-else-start-end}

pub returns-then-end-buffer : goal.returns-then-end-buffer
returns-then-end-buffer c =
    let args = c.args in
    part_filled args.start args.end args.seed args.buffer.now (omega arith) (omega arith) c.fill.ensures

pub returns-else-start-end : goal.returns-else-start-end
returns-else-start-end c =
    let args = c.args in
    elim c.else-start-end.branch [
      | else-start-end-via-then-start-end+else-end-buffer w ↦ part_beyond args.start args.end args.seed args.buffer.now w.if-start-end.true w.if-end-buffer.false
      | else-start-end-via-else-start-end w ↦ part_turned args.start args.end args.seed args.buffer.now w.if-start-end.false
    ]
