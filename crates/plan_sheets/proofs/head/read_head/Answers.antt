-- `plan_sheets::head::read_head` meets its contract: each field is its byte. Assumes nothing.
use Rattle.plan_sheets.proofs.head.read_head.Goals as goal

pub returns : goal.returns
returns c = rw (
  c.byte_at-5.ensures.0,
  c.reads_at.ensures,
  c.byte_at-4.ensures.0,
  c.byte_at-3.ensures.0,
  c.byte_at-2.ensures.0,
  c.byte_at.ensures.0,
  c.byte_at-edition.ensures.0,
)
