-- `Layout::on_disk` meets its contract: at or above the first symbol, and below the end of the strip. Assumes nothing.
use mathlib.Core.Path.{sym, ◌∙◌}
use native.Mathlib.Omega.{arith}
use borrow.Author.Tests.{lt-leb}
use Rattle.codes.proofs.LayoutLaws.{strip_end_small, on_disk_above, on_disk_before}
use Rattle.codes.proofs.Layout.on_disk.Goals as goal

pub overflow_add-result : goal.overflow_add-result
overflow_add-result c =
    let layout = c.args.self in
    omega (
      arith,
      c.first_symbol-first.ensures,
      c.height_of.ensures,
      strip_end_small layout c.args.disk (omega arith) (omega arith),
    )

pub returns-then-first-symbol : goal.returns-then-first-symbol
returns-then-first-symbol c = rw (c.first_symbol-first.ensures, c.height_of.ensures)
    (sym (on_disk_above c.args.self c.args.disk c.args.symbol
    (omega (arith, c.first_symbol-first.ensures, c.if-first-symbol.true))))

pub returns-else-first-symbol : goal.returns-else-first-symbol
returns-else-first-symbol c =
    let args = c.args in
    lt-leb _ _ c.if-first-symbol.false
    ∙ sym (on_disk_before args.self args.disk args.symbol (omega (arith, c.first_symbol-first.ensures, c.if-first-symbol.false)))
