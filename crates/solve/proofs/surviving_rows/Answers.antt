-- `solve::surviving_rows` meets its contract. Assumes nothing.
use mathlib.Core.Path.{◌≡◌, sym, ap, ◌∙◌}
use mathlib.Core.Bool.{Bool, cond}
use native.Mathlib.Omega.{arith}
use lib.ListN.{length, get_or}
use Rattle.bits.specs.BitSets.{has}
use Rattle.bits.specs.Numerals.{numeral, numerals}
use Rattle.bits.proofs.NumeralLaws.{length_numerals, get_or_numerals}
use Rattle.bits.proofs.PushLaws.{pushed, pushed_all}
use Rattle.gf2.specs.InnerSubsetPlans.{survivors}
use Rattle.gf2.proofs.PlanningLaws.{get_or_survivors, length_survivors}
use Rattle.solve.proofs.surviving_rows.Goals as goal
use Rattle.solve.proofs.surviving_rows.Goals.{then-has, else-has}

pub loop-s-init : goal.loop-s-init
unfolding numerals
loop-s-init c = record { count = ap length c.new-surviving.ensures; so_far = ap numerals c.new-surviving.ensures }

pub loop-s-preserved : goal.loop-s-preserved
loop-s-preserved c =
    let rows = c.args.rows.now in
    let known = has (numeral c.args.known) in
    let loop = c.loop-s in
    let entry = get_or_numerals rows loop.s in
    let kept : numeral c.if-has.kept ≡ cond (known loop.s) (get_or (numerals rows) loop.s 0) 0 =
    elim c.if-has.branch [
      | then-has w ↦ ap numeral w.kept-is ∙ entry ∙ sym (ap (λ (b : Bool). cond b (get_or (numerals rows) loop.s 0) 0) (sym c.has.ensures ∙ w.if-has.true))
      | else-has w ↦ ap numeral w.kept-is ∙ w.empty-kept.ensures ∙ sym (ap (λ (b : Bool). cond b (get_or (numerals rows) loop.s 0) 0) (sym c.has.ensures ∙ w.if-has.false))
    ] in
    record {
      count = omega arith;
      so_far =
          pushed _ _ (survivors known (numerals rows)) loop.s (omega (arith, length_survivors known (numerals rows), length_numerals rows)) loop.invariant.so_far
          (kept ∙ sym (get_or_survivors known (numerals rows) loop.s)) _ c.push.ensures.items;
    }

pub returns : goal.returns
returns c =
    let rows = c.args.rows.now in
    let known = has (numeral c.args.known) in
    pushed_all _ (survivors known (numerals rows)) c.loop-s.s (omega (arith, length_survivors known (numerals rows), length_numerals rows)) c.loop-s.invariant.so_far
