-- `plan_sheets::head::write_disks` meets its contract: a store and a list in edition 3, two stores in editions 1 and 2. Assumes nothing.
use native.Mathlib.Omega.{arith}
use lib.ListN.{length-set}
use Rattle.plan_sheets.proofs.SheetWrittenLaws.{room_third, room_one, disks_stored_third, disks_stored_one}
use Rattle.plan_sheets.proofs.head.write_disks.Goals as goal

pub bounds-buffer-5 : goal.bounds-buffer-5
bounds-buffer-5 c =
    let args = c.args in
    omega (arith, c.requires.2, room_third args.edition args.reads args.failed.now args.buffer.now c.if-edition-eq3.true)

pub write_list-requires : goal.write_list-requires
write_list-requires c =
    let args = c.args in
    let room = room_third args.edition args.reads args.failed.now args.buffer.now c.if-edition-eq3.true in
    (c.requires.1, omega arith, simp length-set (omega (arith, c.requires.2, room)))

pub returns-then-edition-eq3 : goal.returns-then-edition-eq3
returns-then-edition-eq3 c =
    let args = c.args in
    disks_stored_third args.edition args.reads args.failed.now args.buffer.now c.if-edition-eq3.true c.requires.2 c.write_list.ensures

pub bounds-buffer-5-2 : goal.bounds-buffer-5-2
bounds-buffer-5-2 c =
    let args = c.args in
    omega (arith, c.requires.2, room_one args.edition args.reads args.failed.now args.buffer.now c.if-edition-eq3.false)

pub bounds-buffer-6 : goal.bounds-buffer-6
bounds-buffer-6 c =
    let args = c.args in
    simp length-set (omega (arith, c.requires.2, room_one args.edition args.reads args.failed.now args.buffer.now c.if-edition-eq3.false))

pub returns : goal.returns
returns c =
    let args = c.args in
    disks_stored_one args.edition args.reads args.failed.now args.buffer.now c.if-edition-eq3.false c.requires.2 c.byte_at.ensures.0
