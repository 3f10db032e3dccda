-- `lists::is_same` meets its contract. Assumes nothing.
use Rattle.std.proofs.Common.{◌∙◌}
use Rattle.lists.proofs.ListLaws.{same_by_entries}
use Rattle.lists.proofs.is_same.Goals as goal

pub returns : goal.returns
returns c = c.eq.ensures ∙ same_by_entries c.args.list.now c.args.other.now
