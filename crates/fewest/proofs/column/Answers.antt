-- `fewest::column` meets its contract. Assumes nothing.
use mathlib.Core.Path.{sym, ap, ◌∙◌}
use native.Mathlib.Omega.{arith}
use Rattle.bits.specs.Numerals.{numeral, numerals}
use Rattle.bits.proofs.NumeralLaws.{length_numerals, get_or_numerals}
use Rattle.fewest.proofs.LoopLaws.{column_none, column_with, column_without, column_all}
use Rattle.fewest.proofs.column.Goals as goal
use Rattle.fewest.proofs.column.Goals.{then-has, else-has}

pub loop-s-init : goal.loop-s-init
loop-s-init c = rw c.empty-set.ensures (column_none (numerals c.args.rows.now) c.args.bit)

pub loop-s-preserved : goal.loop-s-preserved
loop-s-preserved c =
    let a = c.args in
    let rows = numerals a.rows.now in
    let loop = c.loop-s in
    let test = rw (get_or_numerals a.rows.now loop.s) at c.has.ensures in
    elim c.if-has.branch [
      | then-has w ↦ rw (ap numeral w.set-is ∙ w.with-set.ensures) (column_with rows a.bit loop.s (numeral loop.set) loop.invariant (sym test ∙ w.if-has.true))
      | else-has w ↦ rw (ap numeral w.set-is) (column_without rows a.bit loop.s (numeral loop.set) loop.invariant (sym test ∙ w.if-has.false))
    ]

pub returns : goal.returns
returns c =
    let rows = c.args.rows.now in
    column_all (numerals rows) c.args.bit c.loop-s.s (numeral c.loop-s.set) (omega (arith, length_numerals rows)) c.loop-s.invariant
