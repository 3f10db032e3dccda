-- `soundness::columns::union_of` meets its contract. Assumes nothing.
use native.Mathlib.Omega.{arith}
use Rattle.soundness.proofs.ByteLaws.{union_more}
use Rattle.soundness.proofs.columns.union_of.Goals as goal

pub loop-byte-init : goal.loop-byte-init
loop-byte-init c = λ none j h. absurd (omega arith)

pub loop-byte-preserved : goal.loop-byte-preserved
loop-byte-preserved c = λ none. union_more c.args.bytes.now c.loop-byte.byte-index c.loop-byte.invariant none

pub returns : goal.returns
returns c = λ none i h. c.loop-byte.invariant none i (omega arith)
