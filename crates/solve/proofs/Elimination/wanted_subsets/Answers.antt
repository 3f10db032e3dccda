-- `solve::Elimination::wanted_subsets` meets its contract. Assumes nothing.
use mathlib.Core.Path.{◌≡◌, sym, ap, ◌∙◌}
use mathlib.Core.Bool.{Bool, cond}
use Prim.Native.Nat.{◌<◌}
use native.Mathlib.Omega.{arith}
use lib.ListN.{length, get_or}
use Rattle.bits.specs.BitSets.{has}
use Rattle.bits.specs.Numerals.{numeral, numerals}
use Rattle.bits.proofs.NumeralLaws.{get_or_numerals}
use Rattle.bits.proofs.PushLaws.{pushed, pushed_all}
use Rattle.gf2.specs.InnerElimination.{back_substitute}
use Rattle.solve.specs.InnerSolving.{wanted_subsets}
use Rattle.solve.proofs.RowLaws.{length_subsets, get_or_subsets}
use Rattle.solve.proofs.Elimination.wanted_subsets.Goals as goal
use Rattle.solve.proofs.Elimination.wanted_subsets.Goals.{then-has, else-has}

pub loop-target-init : goal.loop-target-init
unfolding numerals
loop-target-init c = record { count = ap length c.new-subsets.ensures; so_far = ap numerals c.new-subsets.ensures }

pub loop-target-preserved : goal.loop-target-preserved
loop-target-preserved c =
    let rows = c.args.rows.now in
    let pivots = numerals c.args.self.now.pivots.items in
    let surviving = numerals c.args.self.now.surviving.items in
    let wanted = has (numeral c.args.wanted) in
    let loop = c.loop-target in
    let below : loop.target < length rows = omega arith in
    let subset = back_substitute pivots surviving (get_or (numerals rows) loop.target 0) in
    let kept : numeral c.if-has.subset ≡ cond (wanted loop.target) subset 0 =
    elim c.if-has.branch [
      | then-has w ↦
          ap numeral w.subset-is ∙ rw (get_or_numerals rows loop.target) at w.subset-subset.ensures
          ∙ sym (ap (λ (b : Bool). cond b subset 0) (sym c.has.ensures ∙ w.if-has.true))
      | else-has w ↦ ap numeral w.subset-is ∙ w.empty-subset.ensures ∙ sym (ap (λ (b : Bool). cond b subset 0) (sym c.has.ensures ∙ w.if-has.false))
    ] in
    record {
      count = omega arith;
      so_far =
          pushed _ _ (wanted_subsets pivots surviving (numerals rows) (length rows) wanted) loop.target
          (omega (arith, length_subsets pivots surviving (numerals rows) (length rows) wanted)) loop.invariant.so_far
          (kept ∙ sym (get_or_subsets pivots surviving (numerals rows) (length rows) wanted loop.target below)) _ c.push.ensures.items;
    }

pub returns : goal.returns
returns c =
    let rows = c.args.rows.now in
    let pivots = numerals c.args.self.now.pivots.items in
    let surviving = numerals c.args.self.now.surviving.items in
    let wanted = has (numeral c.args.wanted) in
    pushed_all _ (wanted_subsets pivots surviving (numerals rows) (length rows) wanted) c.loop-target.target
    (omega (arith, length_subsets pivots surviving (numerals rows) (length rows) wanted)) c.loop-target.invariant.so_far
