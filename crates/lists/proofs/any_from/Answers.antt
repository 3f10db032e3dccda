-- `lists::any_from` meets its contract. Assumes nothing.
use Rattle.std.proofs.Common.{ℕ, ◌∙◌, sym, rules, tests}
use Rattle.std.proofs.lemmas.Iterator.{YieldsList-from_slice}
use Rattle.std.proofs.lemmas.Iterator.Search.{any_from_yields_List}
use lib.Dec.{leb}
use Rattle.lists.proofs.ListLaws.{any_from_is_any}
use Rattle.lists.proofs.any_from.Goals as goal

pub returns : goal.returns
returns c =
    let list = c.args.list.now in
    any_from_yields_List (leb c.args.bound) _ _ _ c.any.ensures.ran (YieldsList-from_slice list cc) (λ x b q k. search (rules, tests)) ∙ sym (any_from_is_any c.args.bound list)
