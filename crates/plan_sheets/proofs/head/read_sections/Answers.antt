-- `plan_sheets::head::read_sections` meets its contract: the bytes are the edition and the counts of the lists. Assumes nothing.
use mathlib.Core.Path.{◌∙◌}
use Rattle.plan_sheets.proofs.head.read_sections.Goals as goal

pub wanted_count_at-requires : goal.wanted_count_at-requires
wanted_count_at-requires c = c.byte_at-failed.ensures.1

pub sections_for-requires : goal.sections_for-requires
sections_for-requires c = (c.byte_at-failed.ensures.1, c.byte_at-listed.ensures.1)

pub returns : goal.returns
returns c = record {
  read = c.sections_for.ensures.sections
      ∙ rw (
        c.byte_at-listed.ensures.0,
        c.wanted_count_at.ensures,
        c.byte_at-failed.ensures.0,
        c.byte_at-edition.ensures.0,
      );
  small = c.sections_for.ensures.small;
}
