-- `records::contains` meets its contract. Assumes nothing.
use Rattle.std.proofs.Common.{◌∙◌, sym, rules, tests}
use Rattle.std.proofs.lemmas.Iterator.{YieldsList-from_slice}
use Rattle.std.proofs.lemmas.Iterator.Search.{any_from_yields_List}
use lib.Dec.{eqb}
use Rattle.records.proofs.LoopLaws.{listed_is_any}
use Rattle.records.proofs.contains.Goals as goal

pub returns : goal.returns
returns c =
    let bytes = c.args.bytes.now in
    any_from_yields_List (eqb c.args.number) _ _ _ c.any.ensures.ran (YieldsList-from_slice bytes cc) (λ x b q k. search (rules, tests)) ∙ sym (listed_is_any c.args.number bytes)
