-- `symbol_passes::clear` meets its contract: the pass begins with zero bytes. Assumes nothing.
use Rattle.std.proofs.Common.{replicate, rules}
use Rattle.gf2.proofs.SymbolLaws.{length_symbol}
use Rattle.passes.proofs.StartLaws.{starts_zeros}
use Rattle.symbol_passes.proofs.clear.Goals as goal

pub returns : goal.returns
returns c =
    let args = c.args in
    let whole = length_symbol args.size args.stripe.now args.target c.requires.target_within in
    c.pass_with.ensures (replicate args.size 0) (starts_zeros _ _ _ args.size whole (λ own other byte made. search rules))
