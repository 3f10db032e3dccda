-- `records::fill` meets its contract, and its products fit. Assumes nothing.
use Rattle.std.proofs.Common.{arith}
use Rattle.records.specs.Records.{next_state, state_byte}
use Rattle.records.proofs.MadeLaws.{storing_starts, storing_more, storing_ends}
use Rattle.records.proofs.fill.Goals as goal

pub loop-byte-init : goal.loop-byte-init
loop-byte-init c = (omega arith, storing_starts)

pub loop-byte-preserved : goal.loop-byte-preserved
unfolding next_state state_byte
loop-byte-preserved c = (omega arith, storing_more c.loop-byte.invariant.1 (omega arith))

pub returns : goal.returns
returns c = storing_ends c.loop-byte.invariant.1 (omega arith)
