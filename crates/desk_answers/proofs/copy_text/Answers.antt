-- `desk_answers::copy_text` meets its contract. Assumes nothing.
use native.Mathlib.Omega.{arith}
use Rattle.desk_answers.proofs.LineLaws.{no_room, copied_more, copied_whole}
use Rattle.desk_answers.proofs.copy_text.Goals as goal

pub returns-then-out-length : goal.returns-then-out-length
returns-then-out-length c =
    let all = no_room c.args.text.now c.args.out.now c.if-out-length.true in record { value = all.0; out_after = all.1 }

pub loop-i-preserved : goal.loop-i-preserved
loop-i-preserved c =
    copied_more c.args.text.now c.args.out.now (omega (arith, c.if-out-length.false)) c.loop-i.out c.loop-i.i c.loop-i.invariant c.loop-i-test.true

pub returns : goal.returns
returns c =
    let all =
    copied_whole c.args.text.now c.args.out.now (omega (arith, c.if-out-length.false)) c.loop-i.out c.loop-i.i c.loop-i.invariant
    (omega (arith, c.loop-i-test.false, c.loop-i.auto.i-end)) in record { value = all.0; out_after = all.1 }
