-- `plan_sheets::head::write_wanted` meets its contract: nothing in edition 1, a list in any other. Assumes nothing.
use native.Mathlib.Omega.{arith}
use Rattle.plan_sheets.proofs.SheetWrittenLaws.{room_wanted, wanted_stored_none, wanted_stored}
use Rattle.plan_sheets.proofs.head.write_wanted.Goals as goal

pub returns-then-edition-eq1 : goal.returns-then-edition-eq1
returns-then-edition-eq1 c =
    let args = c.args in
    wanted_stored_none args.edition args.wanted.now args.at args.buffer.now c.if-edition-eq1.true

pub write_list-requires : goal.write_list-requires
write_list-requires c =
    let room = room_wanted c.args.edition c.args.wanted.now c.if-edition-eq1.false in
    (c.requires.0, omega (arith, c.requires.1), omega (arith, c.requires.2, room))

pub returns : goal.returns
returns c =
    let args = c.args in
    wanted_stored args.edition args.wanted.now args.at args.buffer.now c.if-edition-eq1.false c.write_list.ensures
