-- `elimination::pivot_for` meets its contract. Assumes nothing.
use mathlib.Core.Path.{sym, ◌∙◌}
use native.Mathlib.Omega.{arith}
use Rattle.bits.specs.Numerals.{numeral, numerals}
use Rattle.bits.proofs.NumeralLaws.{length_numerals, get_or_numerals}
use Rattle.elimination.proofs.PivotLaws.{pivot_for_passes, pivot_for_finds, pivot_for_end}
use Rattle.elimination.proofs.pivot_for.Goals as goal

pub returns-then-is_odd : goal.returns-then-is_odd
returns-then-is_odd c =
    let args = c.args in
    let patterns = args.patterns.now in
    let loop = c.loop-pattern in
    let overlap = rw (get_or_numerals patterns loop.pattern-index) at c.is_odd.ensures in
    get_or_numerals patterns loop.pattern-index
    ∙ sym (loop.invariant ∙ pivot_for_finds (numerals patterns) (numeral args.row) loop.pattern-index (sym overlap ∙ c.if-is_odd.true))

pub loop-pattern-preserved : goal.loop-pattern-preserved
loop-pattern-preserved c =
    let args = c.args in
    let patterns = args.patterns.now in
    let loop = c.loop-pattern in
    let overlap = rw (get_or_numerals patterns loop.pattern-index) at c.is_odd.ensures in
    loop.invariant ∙ pivot_for_passes (numerals patterns) (numeral args.row) loop.pattern-index (sym overlap ∙ c.if-is_odd.false)

pub returns : goal.returns
returns c =
    let args = c.args in
    let patterns = args.patterns.now in
    let loop = c.loop-pattern in
    c.empty.ensures
    ∙ sym (loop.invariant ∙ pivot_for_end (numerals patterns) (numeral args.row) loop.pattern-index (omega (arith, length_numerals patterns)))
