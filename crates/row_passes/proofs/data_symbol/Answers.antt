-- `row_passes::data_symbol` meets its contract: the part from t × L to (t + 1) × L is the symbol. Assumes nothing.
use Rattle.gf2.proofs.SymbolLaws.{part_is_symbol}
use Rattle.row_passes.proofs.data_symbol.Goals as goal

pub returns : goal.returns
returns c =
    let args = c.args in
    part_is_symbol args.contents.now args.t args.size
