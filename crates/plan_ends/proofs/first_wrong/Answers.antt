-- `plan_ends::first_wrong` meets its contract. Assumes nothing.
use Rattle.std.proofs.Common.{◌≡◌, sym, ◌∙◌, not, eqb, get_or, below_more, arith, refl}
use borrow.Author.Tests.{lt-ltb, le-ltb}
use Rattle.bits.specs.BitSets.{has}
use Rattle.bits.specs.Numerals.{set_width, numeral, numerals}
use Rattle.bits.proofs.NumeralLaws.{get_or_numerals}
use Rattle.plans.proofs.EndLaws.{lowest_found, lowest_none}
use Rattle.plan_ends.proofs.first_wrong.Goals as goal
use Rattle.plan_ends.proofs.first_wrong.Goals.{else-has-via-then-has+else-off-lt-SET_WIDTH, else-has-via-else-has}

pub loop-s-preserved : goal.loop-s-preserved
loop-s-preserved c =
    let args = c.args in
    let s = c.loop-s.s in
    let differs = rw (get_or_numerals args.rows.now s, get_or_numerals args.own.now s) at c.first_difference-off.ensures.equal in
    below_more _ _ c.loop-s.invariant
    (elim c.else-has.branch [
      | else-has-via-then-has+else-off-lt-SET_WIDTH w ↦ rw (sym c.has.ensures ∙ w.if-has.true) (sym differs ∙ le-ltb _ set_width w.if-off-lt-SET_WIDTH.false)
      | else-has-via-else-has w ↦ rw (sym c.has.ensures ∙ w.if-has.false) refl
    ])

pub returns-then-off-lt-SET_WIDTH-clause-lowest : goal.returns-then-off-lt-SET_WIDTH-clause-lowest
returns-then-off-lt-SET_WIDTH-clause-lowest c =
    let args = c.args in
    let s = c.loop-s.s in
    let differs = rw (get_or_numerals args.rows.now s, get_or_numerals args.own.now s) at c.first_difference-off.ensures.equal in (
      lowest_found args.symbols (has (numeral args.wanted)) (λ t. not (eqb (get_or (numerals args.rows.now) t 0) (get_or (numerals args.own.now) t 0))) s c.loop-s.invariant c.loop-s-test.true
          (rw (sym c.has.ensures ∙ c.if-has.true) (sym differs ∙ lt-ltb _ set_width c.if-off-lt-SET_WIDTH.true)),
      c.loop-s-test.true,
    )

pub returns-then-off-lt-SET_WIDTH-clause-off : goal.returns-then-off-lt-SET_WIDTH-clause-off
returns-then-off-lt-SET_WIDTH-clause-off c = rw (get_or_numerals c.args.rows.now c.loop-s.s, get_or_numerals c.args.own.now c.loop-s.s) at c.first_difference-off.ensures.lowest

pub returns-clause-lowest : goal.returns-clause-lowest
returns-clause-lowest c =
    let args = c.args in
    let end : c.loop-s.s ≡ args.symbols = omega arith in
    sym (lowest_none args.symbols (has (numeral args.wanted)) (λ t. not (eqb (get_or (numerals args.rows.now) t 0) (get_or (numerals args.own.now) t 0))) c.loop-s.s c.loop-s.invariant (omega arith) (omega arith)) ∙ end
