-- `elimination::take_in` meets its contract. Assumes nothing.
use mathlib.Core.Path.{sym, ap, ◌∙◌}
use Prim.Native.Nat.{◌<◌}
use native.Mathlib.Omega.{arith}
use borrow.Author.Tests.{eqb-true}
use lib.ListN.{length}
use lib.Seq.{set-get_or}
use Rattle.bits.specs.Numerals.{empty_set, numeral, numerals}
use Rattle.bits.proofs.NumeralLaws.{length_numerals, get_or_numerals, numerals_set}
use Rattle.gf2.specs.InnerElimination.{pivot_for, reduce_patterns}
use Rattle.gf2.proofs.EliminationLaws.{pivot_for_zero}
use Rattle.elimination.proofs.PivotLaws.{reduce_patterns_of_empty, passed_none, passed_odd, passed_even, passed_all}
use Rattle.elimination.proofs.take_in.Goals as goal
use Rattle.elimination.proofs.take_in.Goals.{then-is_odd, else-is_odd}

pub returns-then-is_empty : goal.returns-then-is_empty
returns-then-is_empty c =
    let patterns = numerals c.args.patterns.now in
    let no_row = eqb-true (numeral c.args.row) 0 (sym c.is_empty.ensures ∙ c.if-is_empty.true) in
    record {
      pivot = c.empty-pivot.ensures ∙ sym (ap (pivot_for patterns) no_row ∙ pivot_for_zero patterns);
      reduced = sym (ap (reduce_patterns patterns) no_row ∙ reduce_patterns_of_empty patterns);
    }

pub loop-pattern-init : goal.loop-pattern-init
loop-pattern-init c = rw c.empty-pivot.ensures (passed_none (numerals c.args.patterns.now) (numeral c.args.row))

pub loop-pattern-preserved : goal.loop-pattern-preserved
loop-pattern-preserved c =
    let pass = c.loop-pattern in
    let at = pass.pattern-index in
    let within : at < length (numerals c.args.patterns.now) = omega (arith, length_numerals c.args.patterns.now) in
    let entry = get_or_numerals pass.pattern-items at in
    let overlap = sym (rw entry at c.is_odd.ensures) in
    elim c.if-is_odd.branch [
      | then-is_odd w ↦
          passed_odd within pass.invariant (overlap ∙ w.if-is_odd.true) (rw entry at w.first_nonempty-pivot.ensures) (rw entry at w.sum.ensures) (ap numeral w.pivot-is)
          (ap numerals w.pattern-items-is ∙ numerals_set pass.pattern-items at w.sum.result)
      | else-is_odd w ↦ passed_even within pass.invariant (overlap ∙ w.if-is_odd.false) (ap numeral w.pivot-is)
          (ap numerals (w.pattern-items-is ∙ set-get_or pass.pattern-items at empty_set))
    ]

pub returns : goal.returns
returns c =
    let all = passed_all (omega (arith, length_numerals c.args.patterns.now)) c.loop-pattern.invariant in
    record { pivot = all.0; reduced = all.1 }
