-- `equations::row_equations` meets its contract. Assumes nothing.
use mathlib.Core.Path.{◌≡◌, sym, ap, ap₂, ◌∙◌}
use mathlib.Core.Bool.{Bool, cond}
use Prim.Native.Nat.{ℕ, ◌^◌, ◌<◌}
use native.Mathlib.Omega.{arith}
use lib.Bits.{bit_xor}
use lib.ListN.{length, get_or}
use Rattle.bits.specs.BitSets.{has, with}
use Rattle.bits.specs.Numerals.{numeral, numerals}
use Rattle.bits.proofs.ListLaws.{length_tabulate, get_or_tabulate}
use Rattle.bits.proofs.NumeralLaws.{get_or_numerals}
use Rattle.bits.proofs.PushLaws.{pushed, pushed_all}
use Rattle.bits.proofs.SetLaws.{with_of_empty}
use Rattle.gf2.specs.InnerElimination.{back_substitute}
use Rattle.spans.specs.InnerSpans.{row_equations, unpivoted}
use Rattle.equations.proofs.row_equations.Goals as goal
use Rattle.equations.proofs.row_equations.Goals.{then-is_unpivoted, else-is_unpivoted}

pub loop-s-init : goal.loop-s-init
unfolding numerals
loop-s-init c = record { count = ap length c.new-equations.ensures; so_far = ap numerals c.new-equations.ensures }

pub loop-s-preserved : goal.loop-s-preserved
loop-s-preserved c =
    let eliminated = c.args.eliminated.now in
    let pivots = numerals eliminated.pivots.items in
    let surviving = numerals eliminated.surviving.items in
    let symbols = length eliminated.surviving.items in
    let chosen = unpivoted pivots (has (numeral c.args.known)) in
    let equation = λ (j : ℕ). cond (chosen j) (bit_xor (back_substitute pivots surviving (get_or surviving j 0)) (2 ^ j)) 0 in
    let loop = c.loop-s in
    let rows = c.as_slice-surviving.ensures.value in
    let below : loop.s < symbols = omega (arith, ap (λ l. length l) rows) in
    let test = rw (c.as_slice-pivots.ensures.value, get_or_numerals eliminated.pivots.items loop.s) at c.is_unpivoted.ensures in
    let kept : numeral c.if-is_unpivoted.equation ≡ equation loop.s =
    elim c.if-is_unpivoted.branch [
      | then-is_unpivoted w ↦
          ap numeral w.equation-is ∙ w.sum-equation.ensures
          ∙ ap₂ bit_xor (rw (rows, get_or_numerals eliminated.surviving.items loop.s) at w.subset.ensures) (w.with.ensures ∙ ap (λ (v : ℕ). with v loop.s) w.empty.ensures ∙ with_of_empty loop.s)
          ∙ sym (ap (λ (b : Bool). cond b (bit_xor (back_substitute pivots surviving (get_or surviving loop.s 0)) (2 ^ loop.s)) 0) (sym test ∙ w.if-is_unpivoted.true))
      | else-is_unpivoted w ↦
          ap numeral w.equation-is ∙ w.empty-equation.ensures
          ∙ sym (ap (λ (b : Bool). cond b (bit_xor (back_substitute pivots surviving (get_or surviving loop.s 0)) (2 ^ loop.s)) 0) (sym test ∙ w.if-is_unpivoted.false))
    ] in
    record {
      count = omega arith;
      so_far =
          pushed _ _ (row_equations pivots surviving symbols chosen) loop.s (omega (arith, length_tabulate symbols equation)) loop.invariant.so_far
          (kept ∙ sym (get_or_tabulate symbols equation loop.s below)) _ c.push.ensures.items;
    }

pub returns : goal.returns
returns c =
    let eliminated = c.args.eliminated.now in
    let pivots = numerals eliminated.pivots.items in
    let surviving = numerals eliminated.surviving.items in
    let symbols = length eliminated.surviving.items in
    let chosen = unpivoted pivots (has (numeral c.args.known)) in
    let equation = λ (j : ℕ). cond (chosen j) (bit_xor (back_substitute pivots surviving (get_or surviving j 0)) (2 ^ j)) 0 in
    pushed_all _ (row_equations pivots surviving symbols chosen) c.loop-s.s
    (omega (arith, length_tabulate symbols equation, ap (λ l. length l) c.as_slice-surviving.ensures.value)) c.loop-s.invariant.so_far
