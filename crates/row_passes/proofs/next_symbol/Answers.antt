-- `row_passes::next_symbol` meets its contract: the row's lowest element from one on, where it is a data symbol. Assumes nothing.
use native.Mathlib.Omega.{arith}
use Rattle.bits.specs.Numerals.{set_width, numeral}
use Rattle.row_passes.proofs.GatherLaws.{next_within, next_behind}
use Rattle.row_passes.proofs.next_symbol.Goals as goal

pub returns-then-next-data_symbols-clause-first : goal.returns-then-next-data_symbols-clause-first
returns-then-next-data_symbols-clause-first c =
    let args = c.args in
    next_within (numeral args.row) args.data_symbols set_width args.from _ c.requires.0 c.requires.1 c.lowest_from-next.ensures c.if-next-data_symbols.true

pub returns-clause-first : goal.returns-clause-first
returns-clause-first c =
    let args = c.args in
    next_behind (numeral args.row) args.data_symbols set_width args.from _ c.requires.0 c.requires.1 c.lowest_from-next.ensures (omega arith)
