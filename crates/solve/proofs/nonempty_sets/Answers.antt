-- `solve::nonempty_sets` meets its contract. Assumes nothing.
use mathlib.Core.Path.{sym, ap, ap₂, ◌∙◌}
use mathlib.Core.List.{List, [], ◌∷◌, ◌++◌}
use Prim.Native.Nat.{ℕ, ◌<◌}
use native.Mathlib.Omega.{arith}
use lib.ListN.{length}
use lib.Seq.{take_all}
use Rattle.bits.specs.Numerals.{numerals}
use Rattle.bits.proofs.NumeralLaws.{length_numerals, get_or_numerals, numerals_append}
use Rattle.gf2.specs.InnerElimination.{nonempty}
use Rattle.solve.proofs.GatherLaws.{gathered_passed, gathered_more}
use Rattle.solve.proofs.nonempty_sets.Goals as goal
use Rattle.solve.proofs.nonempty_sets.Goals.{then-not-is_empty, else-not-is_empty}

pub loop-set-init : goal.loop-set-init
unfolding numerals nonempty
loop-set-init c = record { few = omega (arith, ap length c.new-gathered.ensures); so_far = ap numerals c.new-gathered.ensures }

pub loop-set-preserved : goal.loop-set-preserved
loop-set-preserved c =
    let sets = c.args.sets.now in
    let loop = c.loop-set in
    let at = loop.set-index in
    let within : at < length (numerals sets) = omega (arith, length_numerals sets) in
    let entry = get_or_numerals sets at in
    let test = sym (rw entry at c.is_empty.ensures) in
    elim c.if-not-is_empty.branch [
      | then-not-is_empty w ↦ record {
        few = omega (arith, w.push.ensures.len, ap (λ v. length v.items) w.gathered-is);
        so_far =
            ap (λ v. numerals v.items) w.gathered-is
            ∙ ap numerals w.push.ensures.items
            ∙ numerals_append loop.gathered.items _
            ∙ ap₂ (λ (l : List ℕ) (n : ℕ). l ++ n ∷ []) loop.invariant.so_far entry
            ∙ sym (gathered_more (numerals sets) at within (test ∙ w.if-not-is_empty.true));
      }
      | else-not-is_empty w ↦ record {
        few = omega (arith, ap (λ v. length v.items) w.gathered-is);
        so_far = ap (λ v. numerals v.items) w.gathered-is ∙ loop.invariant.so_far ∙ sym (gathered_passed (numerals sets) at within (test ∙ w.if-not-is_empty.false));
      }
    ]

pub returns : goal.returns
returns c =
    let sets = c.args.sets.now in
    c.loop-set.invariant.so_far ∙ ap nonempty (take_all c.loop-set.set-index (numerals sets) (omega (arith, length_numerals sets)))
