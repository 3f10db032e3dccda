-- `records::same_behind` meets its contract. Assumes nothing.
use mathlib.Core.Path.{ap₂, ◌∙◌}
use Rattle.lists.specs.Lists.{same}
use Rattle.records.proofs.same_behind.Goals as goal

pub returns : goal.returns
returns c = c.is_same.ensures ∙ ap₂ same c.rest_at.ensures c.rest_at-2.ensures
