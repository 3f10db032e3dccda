-- `plan_sheets::head::write_numbers` meets its contract: five stores from the front. Assumes nothing.
use native.Mathlib.Omega.{arith}
use lib.ListN.{length-set}
use Rattle.plan_sheets.proofs.SheetWrittenLaws.{numbers_stored}
use Rattle.plan_sheets.proofs.head.write_numbers.Goals as goal

pub overflow_cast-buffer : goal.overflow_cast-buffer
overflow_cast-buffer c = omega (arith, c.requires.0.count_to)

pub bounds-buffer-0 : goal.bounds-buffer-0
bounds-buffer-0 c = omega (arith, c.requires.1)

pub overflow_cast-buffer-2 : goal.overflow_cast-buffer-2
overflow_cast-buffer-2 c = omega (arith, c.requires.0.edition_to)

pub bounds-buffer-1 : goal.bounds-buffer-1
bounds-buffer-1 c = simp length-set (omega (arith, c.requires.1))

pub overflow_cast-buffer-3 : goal.overflow_cast-buffer-3
overflow_cast-buffer-3 c = omega (arith, c.requires.0.disks_to)

pub bounds-buffer-2 : goal.bounds-buffer-2
bounds-buffer-2 c = simp length-set (omega (arith, c.requires.1))

pub overflow_cast-buffer-4 : goal.overflow_cast-buffer-4
overflow_cast-buffer-4 c = omega (arith, c.requires.0.height_to)

pub bounds-buffer-3 : goal.bounds-buffer-3
bounds-buffer-3 c = simp length-set (omega (arith, c.requires.1))

pub overflow_cast-buffer-5 : goal.overflow_cast-buffer-5
overflow_cast-buffer-5 c = omega (arith, c.requires.0.data_to)

pub bounds-buffer-4 : goal.bounds-buffer-4
bounds-buffer-4 c = simp length-set (omega (arith, c.requires.1))

pub returns : goal.returns
returns c =
    numbers_stored c.args.head c.args.buffer.now c.requires.1
