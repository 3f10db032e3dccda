-- `symbol_passes::add` meets its contract: the pass begins with the target XOR the symbol. Assumes nothing.
use Rattle.std.proofs.Common.{sym, ◌∙◌, rules}
use Rattle.gf2.proofs.SymbolLaws.{length_symbol}
use Rattle.passes.proofs.StartLaws.{starts_both}
use Rattle.symbol_passes.proofs.add.Goals as goal

pub returns : goal.returns
returns c =
    let args = c.args in
    let alike =
    length_symbol args.size args.stripe.now args.source c.requires.source_within ∙ sym (length_symbol args.size args.stripe.now args.target c.requires.target_within) in
    c.pass_with.ensures _ (starts_both _ _ _ alike (λ own other byte made. search rules))
