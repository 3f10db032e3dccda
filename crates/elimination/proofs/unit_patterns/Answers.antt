-- `elimination::unit_patterns` meets its contract. Assumes nothing.
use mathlib.Core.Path.{sym, ap, ◌∙◌}
use Prim.Native.Nat.{ℕ, ◌<◌}
use native.Mathlib.Omega.{arith}
use lib.ListN.{length}
use Rattle.bits.specs.BitSets.{with}
use Rattle.bits.specs.Numerals.{numerals}
use Rattle.bits.proofs.PushLaws.{pushed, pushed_all}
use Rattle.bits.proofs.SetLaws.{with_of_empty}
use Rattle.gf2.specs.InnerElimination.{units}
use Rattle.gf2.proofs.EliminationLaws.{length_units, get_or_units}
use Rattle.elimination.proofs.unit_patterns.Goals as goal

pub loop-bit-init : goal.loop-bit-init
unfolding numerals
loop-bit-init c = record { count = ap length c.new-patterns.ensures; so_far = ap numerals c.new-patterns.ensures }

pub loop-bit-preserved : goal.loop-bit-preserved
loop-bit-preserved c =
    let loop = c.loop-bit in
    let width = c.args.width in
    let next : loop.bit < width = omega arith in
    let unit = c.with.ensures ∙ ap (λ (set : ℕ). with set loop.bit) c.empty.ensures ∙ with_of_empty loop.bit ∙ sym (get_or_units width loop.bit next) in
    record {
      count = omega arith;
      so_far = pushed _ _ (units width) loop.bit (omega (arith, length_units width)) loop.invariant.so_far unit _ c.push.ensures.items;
    }

pub returns : goal.returns
returns c =
    let width = c.args.width in
    pushed_all _ (units width) c.loop-bit.bit (omega (arith, length_units width)) c.loop-bit.invariant.so_far
