-- `plan_sheets::write_plan` meets its contract: the steps behind the head's place, then the head in front of them. Assumes nothing.
use mathlib.Core.Path.{ap, ◌∙◌}
use Prim.Native.Nat.{ℕ}
use native.Mathlib.Omega.{arith}
use Rattle.bits.specs.BitSets.{has}
use Rattle.bits.specs.Numerals.{numeral, numerals}
use Rattle.codes.specs.Layouts.{symbols_of}
use Rattle.plan_sheets.specs.PlanSheets.{Sections, head_length, sheet_length}
use Rattle.plan_sheets.specs.InnerPlanSheets.{head_for, subset_plan}
use Rattle.plan_sheets.proofs.SheetWrittenLaws.{part_stored, length_stored, sheet_stored, steps_writable, count_told, reads_told, few_reads, first_number, first_count_small, edition_small}
use Rattle.plan_sheets.proofs.write_plan.Goals as goal

pub symbols-symbols-requires : goal.symbols-symbols-requires
symbols-symbols-requires c =
    let within = c.requires.layout_within in
    (omega arith, omega arith)

pub sections_for-sections-requires : goal.sections_for-sections-requires
sections_for-sections-requires c = (c.requires.failed_to, c.requires.list_to)

pub head_length-start-requires : goal.head_length-start-requires
head_length-start-requires c = c.sections_for-sections.ensures.small

pub slice_bounds-write_steps-count : goal.slice_bounds-write_steps-count
slice_bounds-write_steps-count c = omega (arith, c.head_length-start.ensures ∙ ap head_length c.sections_for-sections.ensures.sections, c.requires.room)

pub write_steps-steps-requires : goal.write_steps-steps-requires
write_steps-steps-requires c =
    let a = c.args in
    steps_writable a.layout (has (numeral a.wanted)) (numerals a.subsets) c.symbols-symbols.ensures a.buffer.now c.requires (c.head_length-start.ensures ∙ ap head_length c.sections_for-sections.ensures.sections)

pub write_head-requires : goal.write_head-requires
write_head-requires c =
    let a = c.args in
    let within = c.requires.layout_within in
    let symbols = c.symbols-symbols.ensures in
    let reads =
    few_reads a.layout (has (numeral a.wanted)) (numerals a.subsets) symbols c.write_steps-steps.ensures.answer c.count-reads.ensures (omega (arith, symbols)) in
    record {
      edition_fits = c.requires.edition_fits;
      numbers_to =
          record {
            count_to = omega (arith, c.first_count.ensures, first_count_small a.edition);
            edition_to = edition_small c.requires.edition_fits;
            disks_to = omega arith;
            height_to = omega arith;
            data_to = c.requires.data_to;
            reads_to = omega (arith, reads);
          };
      failed_to = c.requires.failed_to;
      wanted_to = c.requires.list_to;
      steps_to = omega (arith, count_told c.args.layout (has (numeral c.args.wanted)) (numerals c.args.subsets) c.symbols-symbols.ensures c.write_steps-steps.ensures.answer, c.requires.steps_fit);
      room = omega (arith, c.requires.room, c.write_steps-steps.auto.buffer);
    }

pub sheet_length-requires : goal.sheet_length-requires
sheet_length-requires c = (c.sections_for-sections.ensures.small, omega (arith, count_told c.args.layout (has (numeral c.args.wanted)) (numerals c.args.subsets) c.symbols-symbols.ensures c.write_steps-steps.ensures.answer, c.requires.steps_fit))

pub returns : goal.returns
returns c =
    let a = c.args in
    let wanted = has (numeral a.wanted) in
    let subsets = numerals a.subsets in
    let symbols = c.symbols-symbols.ensures in
    let place = c.head_length-start.ensures ∙ ap head_length c.sections_for-sections.ensures.sections in
    let steps = c.write_steps-steps in
    let number = count_told c.args.layout (has (numeral c.args.wanted)) (numerals c.args.subsets) c.symbols-symbols.ensures c.write_steps-steps.ensures.answer in
    let plan = subset_plan (symbols_of a.layout) wanted subsets in
    let reads = c.count-reads.result in
    let head = head_for a.edition a.layout a.data_symbols reads in
    record {
      reads = reads_told a.layout wanted subsets symbols steps.ensures.answer c.count-reads.ensures;
      length = length_stored head a.failed.now a.list.now c.requires.edition_fits plan place number
          (c.sheet_length.ensures ∙ ap (λ (sections : Sections). sheet_length sections steps.result.count) c.sections_for-sections.ensures.sections);
      buffer = sheet_stored head a.failed.now a.list.now c.requires.edition_fits plan place number a.buffer.now (omega (arith, c.requires.room))
          (part_stored a.buffer.now _ (omega (arith, place, c.requires.room)) steps.ensures.buffer (ap (λ (n : ℕ). subset_plan n wanted subsets) symbols))
          (first_number a.edition a.layout a.data_symbols reads a.failed.now a.list.now steps.result.count _ c.first_count.ensures c.write_head.ensures);
    }
