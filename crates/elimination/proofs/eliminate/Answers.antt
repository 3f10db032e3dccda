-- `elimination::eliminate` meets its contract. Assumes nothing.
use mathlib.Core.Path.{ap, ◌∙◌}
use native.Mathlib.Omega.{arith}
use lib.ListN.{length}
use Rattle.bits.specs.Numerals.{numerals}
use Rattle.bits.proofs.NumeralLaws.{length_numerals, get_or_numerals, numerals_append}
use Rattle.gf2.specs.InnerElimination.{pivot_for, reduce_patterns}
use Rattle.elimination.proofs.RowLaws.{eliminated_none, eliminated_next, eliminated_all}
use Rattle.elimination.proofs.eliminate.Goals as goal

pub loop-row-init : goal.loop-row-init
unfolding numerals
loop-row-init c =
    let empty = c.new-pivots.ensures in
    record {
      count = ap length empty;
      eliminated = rw empty (eliminated_none (numerals c.args.rows.now) (numerals c.args.patterns.now));
    }

pub loop-row-preserved : goal.loop-row-preserved
loop-row-preserved c =
    let rows = c.args.rows.now in
    let loop = c.loop-row in
    let left = numerals loop.patterns in
    let row = get_or_numerals rows loop.row-index in
    let taken = c.take_in.ensures in
    let pushed = ap numerals c.push.ensures.items ∙ numerals_append loop.pivots.items c.take_in.result in
    record {
      count = omega arith;
      eliminated =
          rw pushed
          (eliminated_next loop.invariant.eliminated (omega (arith, length_numerals rows)) (taken.reduced ∙ ap (reduce_patterns left) row)
          (taken.pivot ∙ ap (pivot_for left) row));
    }

pub returns : goal.returns
returns c =
    let rows = c.args.rows.now in
    let all = eliminated_all c.loop-row.invariant.eliminated (omega (arith, length_numerals rows)) in
    record { remaining = all.0; pivots = all.1 }
