-- `plan_sheets::head::write_head` meets its contract: the numbers, the disks, the wanted symbols, and the step count behind them. Assumes nothing.
use mathlib.Core.Path.{ap, ◌∙◌}
use native.Mathlib.Omega.{arith}
use lib.ListN.{length}
use Rattle.plan_sheets.specs.PlanSheets.{steps_at}
use Rattle.plan_sheets.proofs.ReadingLaws.{head_from}
use Rattle.plan_sheets.proofs.ReadBackLaws.{length_disk_bytes, steps_at_sections}
use Rattle.plan_sheets.proofs.SheetWrittenLaws.{head_stored}
use Rattle.plan_sheets.proofs.head.write_head.Goals as goal

pub wanted_count_at-listed-requires : goal.wanted_count_at-listed-requires
wanted_count_at-listed-requires c = c.requires.failed_to

pub sections_for-requires : goal.sections_for-requires
sections_for-requires c = (c.requires.failed_to, c.requires.wanted_to)

pub steps_at-at-requires : goal.steps_at-at-requires
steps_at-at-requires c = c.sections_for.ensures.small

pub write_numbers-requires : goal.write_numbers-requires
write_numbers-requires c =
    let args = c.args in
    (c.requires.numbers_to, omega (arith, c.requires.room, head_from args.head.edition (length args.failed.now) (length args.wanted.now)))

pub write_disks-requires : goal.write_disks-requires
write_disks-requires c =
    let args = c.args in
    let ends = steps_at_sections args.head.edition args.head.reads args.failed.now args.wanted.now c.requires.edition_fits in
    (c.requires.numbers_to.reads_to, c.requires.failed_to, omega (arith, c.requires.room, ends, c.write_numbers.auto.buffer))

pub write_wanted-requires : goal.write_wanted-requires
write_wanted-requires c =
    let args = c.args in
    let listed = c.wanted_count_at-listed.ensures in
    let ends = steps_at_sections args.head.edition args.head.reads args.failed.now args.wanted.now c.requires.edition_fits in
    let disks = length_disk_bytes args.head.edition args.head.reads args.failed.now in
    let small = c.sections_for.ensures.small.wanted_small in
    let behind = (c.steps_at-at.ensures ∙ ap steps_at c.sections_for.ensures.sections) in
    (c.requires.wanted_to, omega (arith, listed, ends, disks, small, behind, c.steps_at-at.ensures), omega (arith, c.requires.room, listed, ends, disks, c.write_disks.auto.buffer, c.write_numbers.auto.buffer))

pub write_two_bytes-requires : goal.write_two_bytes-requires
write_two_bytes-requires c =
    let small = c.sections_for.ensures.small.wanted_small in
    let at = c.steps_at-at.ensures in
    let long = c.write_wanted.auto.buffer ∙ c.write_disks.auto.buffer ∙ c.write_numbers.auto.buffer in
    (omega (arith, c.requires.steps_to), omega (arith, at, small), omega (arith, (c.steps_at-at.ensures ∙ ap steps_at c.sections_for.ensures.sections), c.requires.room, long))

pub returns : goal.returns
returns c =
    let args = c.args in
    head_stored args.head args.failed.now args.wanted.now args.steps args.buffer.now c.requires.edition_fits
    c.write_numbers.ensures c.write_disks.ensures c.wanted_count_at-listed.ensures c.write_wanted.ensures
    (c.steps_at-at.ensures ∙ ap steps_at c.sections_for.ensures.sections) c.write_two_bytes.ensures
