-- `swaps::ReadingTerms::lowering_equation` meets its contract. Assumes nothing.
use mathlib.Core.Path.{◌≡◌, sym, ap, ◌∙◌}
use mathlib.Core.List.{List}
use Prim.Native.Nat.{ℕ, ◌<◌}
use native.Mathlib.Omega.{arith}
use lib.Bits.{bit_or, bit_xor}
use lib.Ieee.{Float, lt}
use lib.ListN.{length, get_or}
use Rattle.bits.specs.BitSets.{has}
use Rattle.bits.specs.declared.BitSet.{BitSet}
use Rattle.bits.specs.Numerals.{empty_set, numeral}
use Rattle.bits.proofs.NumeralLaws.{get_or_numerals}
use Rattle.prices.specs.Prices.{sum_of}
use borrow.Author.Count.{below_more}
use Rattle.swaps.specs.InnerSwaps.{terms, lowers_with}
use Rattle.swaps.specs.declared.ReadingTerms.{ReadingTerms}
use Rattle.swaps.proofs.ReadingTerms.lowering_equation.Goals as goal

-- The code's comparison, of the price of what would be read with the cost, is the test of the equation
tested : (held : ReadingTerms) (others own : ℕ) (cost : Float) (e : ℕ) {equations : List BitSet} {price : Float} {read both : ℕ} → equations ≡ held.equations.items
    → price ≡ sum_of held.layout held.states (has read) → read ≡ bit_or others both → both ≡ bit_xor own (numeral (get_or equations e empty_set))
    → lt price cost ≡ lowers_with (terms held) others own cost e
tested held others own cost e equations_are price_is read_is both_is =
    ap (λ (x : Float). lt x cost)
    (price_is
    ∙ ap (λ (n : ℕ). sum_of held.layout held.states (has n))
    (read_is ∙ ap (bit_or others) (both_is ∙ ap (bit_xor own) (ap (λ (l : List BitSet). numeral (get_or l e empty_set)) equations_are ∙ get_or_numerals held.equations.items e))))

pub returns-then-cost-clause-found : goal.returns-then-cost-clause-found
returns-then-cost-clause-found c =
    let a = c.args in
    let e = c.loop-e.e in
    let equations = c.as_slice-equation-items.ensures.value in
    let below : e < length a.self.now.equations.items = omega (arith, ap (λ l. length l) equations) in
    (below, sym (tested a.self.now (numeral a.others) (numeral a.own) a.cost e equations c.cost.ensures c.union-read.ensures c.sum.ensures) ∙ c.if-cost.true)

pub loop-e-preserved : goal.loop-e-preserved
loop-e-preserved c =
    let a = c.args in
    let loop = c.loop-e in
    let equations = c.as_slice-equation-items.ensures.value in
    below_more _ loop.e loop.invariant
    (sym (tested a.self.now (numeral a.others) (numeral a.own) a.cost loop.e equations c.cost.ensures c.union-read.ensures c.sum.ensures) ∙ c.if-cost.false)
