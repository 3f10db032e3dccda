-- `swaps::settle` meets its contract. Assumes nothing.
use mathlib.Core.Path.{◌≡◌, ap, ap₂, ◌∙◌, subst}
use mathlib.Core.List.{List}
use Prim.Native.Nat.{ℕ}
use native.Mathlib.Omega.{arith}
use lib.Bits.{bit_xor}
use lib.ListN.{length, get_or, set}
use Rattle.bits.specs.BitSets.{has}
use Rattle.bits.specs.declared.BitSet.{BitSet}
use Rattle.bits.specs.Numerals.{empty_set, numeral, numerals}
use Rattle.bits.proofs.NumeralLaws.{length_numerals, get_or_numerals, numerals_set}
use Rattle.prices.specs.Prices.{sum_of}
use Rattle.swaps.specs.Swaps.{none, most_swaps, terms_of, Settled}
use Rattle.swaps.proofs.SwapLaws.{settled_if_none, settled_by_next, after_one_more}
use Rattle.swaps.proofs.settle.Goals as goal

pub loop-swaps-init : goal.loop-swaps-init
loop-swaps-init c =
    let a = c.args in
    record {
      made = none;
      cost_is = c.cost-cost.ensures ∙ ap (λ (n : ℕ). sum_of a.layout a.states.now (has n)) c.read_by.ensures;
      near = omega arith;
    }

pub next_swap-requires : goal.next_swap-requires
next_swap-requires c =
    let loop = c.loop-swaps in
    (record { one_each = omega (arith, c.requires.2, length_numerals loop.sets); cost_is = loop.invariant.cost_is }, loop.invariant.near)

pub returns-in_default : goal.returns-in_default
returns-in_default c =
    let loop = c.loop-swaps in
    settled_if_none loop.invariant.made (omega arith) loop.invariant.cost_is c.in_default.ensures

pub bounds-as_slice-swap : goal.bounds-as_slice-swap
bounds-as_slice-swap c = omega (arith, c.in-Some.ensures.of_list, length_numerals c.args.equations.items, ap (λ l. length l) c.as_slice.ensures.value)

pub offset_bounds-as_slice-swap : goal.offset_bounds-as_slice-swap
offset_bounds-as_slice-swap c = omega (arith, bounds-as_slice-swap c, c.as_slice.ensures.fits)

pub loop-swaps-preserved : goal.loop-swaps-preserved
loop-swaps-preserved c =
    let a = c.args in
    let loop = c.loop-swaps in
    let target = c.in-Some.swap.target in
    let equation = c.in-Some.swap.equation in
    let made = c.in-Some.ensures in
    let equations = ap (λ (l : List BitSet). numeral (get_or l equation empty_set)) c.as_slice.ensures.value ∙ get_or_numerals a.equations.items equation in
    let sets_are =
    numerals_set loop.sets target c.sum.result
    ∙ ap (set (numerals loop.sets) target) (c.sum.ensures ∙ ap₂ bit_xor (get_or_numerals loop.sets target) equations) in
    record {
      made = after_one_more loop.invariant.made made _ sets_are;
      cost_is = c.cost-cost-in-loop-swaps.ensures ∙ ap (λ (n : ℕ). sum_of a.layout a.states.now (has n)) c.read_by-in-loop-swaps.ensures;
      near = omega (arith, c.requires.1 target made.of_wanted);
    }

pub next_swap-requires-2 : goal.next_swap-requires-2
next_swap-requires-2 c =
    let loop = c.loop-swaps in
    (record { one_each = omega (arith, c.requires.2, length_numerals loop.sets); cost_is = loop.invariant.cost_is }, loop.invariant.near)

pub returns : goal.returns
returns c =
    let loop = c.loop-swaps in
    let last : loop.swaps ≡ most_swaps = omega arith in
    let terms = terms_of c.args.layout c.args.states.now (numerals c.args.equations.items) c.args.wanted in
    subst (λ (swaps : ℕ). Settled terms (numerals c.args.sets.now) (numerals loop.sets) loop.cost swaps c.is_none.result) last
    (settled_by_next c.next_swap-2.result c.is_none.result c.is_none.ensures c.next_swap-2.ensures loop.invariant.made last loop.invariant.cost_is)
