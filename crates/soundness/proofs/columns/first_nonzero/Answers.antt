-- `soundness::columns::first_nonzero` meets its contract. Assumes nothing.
use native.Mathlib.Omega.{arith}
use Rattle.soundness.proofs.ByteLaws.{zero_more, first_nonzero_none, first_nonzero_found}
use Rattle.soundness.proofs.columns.first_nonzero.Goals as goal

pub returns-then-union_of-eq0 : goal.returns-then-union_of-eq0
returns-then-union_of-eq0 c = first_nonzero_none _ _ (omega arith) (omega arith) (c.union_of.ensures c.if-union_of-eq0.true)

pub loop-i-init : goal.loop-i-init
loop-i-init c = λ j h. absurd (omega arith)

pub returns-then-byte-ne0 : goal.returns-then-byte-ne0
returns-then-byte-ne0 c = first_nonzero_found c.args.bytes.now c.loop-i.i (omega arith) c.loop-i.invariant c.if-byte-ne0.true

pub loop-i-preserved : goal.loop-i-preserved
loop-i-preserved c = zero_more c.args.bytes.now c.loop-i.i c.loop-i.invariant c.if-byte-ne0.false

pub returns : goal.returns
returns c = first_nonzero_none _ _ (omega arith) (omega arith) (λ j h. c.loop-i.invariant j (omega arith))
