-- `records::spread` meets its contract. Assumes nothing.
use native.Mathlib.Omega.{arith}
use Rattle.records.proofs.MadeLaws.{storing_starts, storing_more, storing_ends}
use Rattle.records.proofs.spread.Goals as goal

pub loop-bit-init : goal.loop-bit-init
loop-bit-init c = storing_starts

pub loop-bit-preserved : goal.loop-bit-preserved
loop-bit-preserved c = storing_more c.loop-bit.invariant (omega arith)

pub returns : goal.returns
returns c = storing_ends c.loop-bit.invariant (omega arith)
