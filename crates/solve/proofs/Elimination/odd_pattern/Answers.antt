-- `solve::Elimination::odd_pattern` meets its contract. Assumes nothing.
use mathlib.Core.Path.{sym, ◌∙◌}
use lib.ListN.{length}
use Rattle.bits.specs.BitSets.{has}
use Rattle.bits.specs.Numerals.{numeral, numerals}
use Rattle.bits.proofs.NumeralLaws.{get_or_numerals}
use Rattle.solve.proofs.OddPatternLaws.{odd_skip, odd_first, odd_later, odd_none}
use Rattle.solve.proofs.Elimination.odd_pattern.Goals as goal
use Rattle.solve.proofs.Elimination.odd_pattern.Goals.{then-has+else-not-is_empty, else-has}

pub returns-then-not-is_empty : goal.returns-then-not-is_empty
returns-then-not-is_empty c =
    let rows = c.args.rows.now in
    let loop = c.loop-s in
    let pivot = rw (c.as_slice.ensures.value, get_or_numerals rows loop.s) at c.pivot_for-pattern.ensures in
    odd_first (numerals c.args.self.now.remaining.items) (numerals rows) (length rows) (has (numeral c.args.wanted)) loop.s c.loop-s-test.true loop.invariant
    (sym c.has.ensures ∙ c.if-has.true) pivot (sym c.is_empty.ensures ∙ c.if-not-is_empty.true)

pub loop-s-preserved : goal.loop-s-preserved
loop-s-preserved c =
    let rows = c.args.rows.now in
    let patterns = numerals c.args.self.now.remaining.items in
    let wanted = has (numeral c.args.wanted) in
    let loop = c.loop-s in
    let taken = c.loop-s-test.true in
    let test = sym c.has.ensures in
    elim c.if-has.branch [
      | then-has+else-not-is_empty w ↦
          odd_later patterns (numerals rows) (length rows) wanted loop.s taken loop.invariant (test ∙ w.if-has.true)
          (rw (w.as_slice.ensures.value, get_or_numerals rows loop.s) at w.pivot_for-pattern.ensures) (sym w.is_empty.ensures ∙ w.if-not-is_empty.false)
      | else-has w ↦ odd_skip patterns (numerals rows) (length rows) wanted loop.s taken loop.invariant (test ∙ w.if-has.false)
    ]

pub returns : goal.returns
returns c =
    let rows = c.args.rows.now in
    c.empty.ensures
    ∙ sym (odd_none (numerals c.args.self.now.remaining.items) (numerals rows) (length rows) (has (numeral c.args.wanted)) c.loop-s.s c.loop-s-test.false)
    ∙ c.loop-s.invariant
