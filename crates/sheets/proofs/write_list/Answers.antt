-- `sheets::write_list` meets its contract. Assumes nothing.
use mathlib.Core.Path.{◌≡◌}
use Prim.Native.Nat.{◌+◌}
use native.Mathlib.Omega.{arith}
use lib.ListN.{length, set}
use lib.Seq.{paste-zero}
use Rattle.sheets.proofs.ListLaws.{with_entries_next, list_stored}
use Rattle.sheets.proofs.write_list.Goals as goal

pub loop-i-init : goal.loop-i-init
loop-i-init c =
    let a = c.args in
    paste-zero (set a.buffer.now a.at (length a.list.now)) (a.at + 1) a.list.now

pub loop-i-preserved : goal.loop-i-preserved
loop-i-preserved c = with_entries_next c.args.list.now c.args.at c.args.buffer.now c.requires.2 c.loop-i-test.true c.loop-i.invariant

pub returns : goal.returns
returns c =
    let all : c.loop-i.i ≡ length c.args.list.now = omega (arith, c.loop-i-test.false, c.loop-i.auto.i-end) in
    list_stored c.args.list.now c.args.at c.args.buffer.now c.requires.2 c.loop-i.invariant all
