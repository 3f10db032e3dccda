-- `solve::eliminate_known` meets its contract: there is a pivot for each row. Assumes nothing.
use mathlib.Core.List.{◌++◌}
use Prim.Native.Nat.{ℕ}
use mathlib.Core.Path.{◌≡◌, ap, ap₂, ◌∙◌}
use native.Mathlib.Omega.{arith}
use lib.ListN.{length, take, drop}
use lib.Seq.{take-append_seam}
use Rattle.bits.specs.Numerals.{numeral, numerals}
use Rattle.bits.proofs.NumeralLaws.{length_numerals, numerals_take}
use Rattle.bits.specs.BitSets.{has}
use Rattle.gf2.specs.InnerElimination.{remaining}
use Rattle.gf2.specs.InnerSubsetPlans.{survivors}
use Rattle.solve.proofs.RowLaws.{length_pivots}
use Rattle.solve.proofs.eliminate_known.Goals as goal

pub invariant_of-result : goal.invariant_of-result
invariant_of-result c =
    let rows = c.as_slice.result.now in
    let found = c.eliminate-pivots.result.items in
    let same = ap (λ l. length l) c.as_slice.ensures.value in
    let units = take c.len-count.result c.array-patterns.result in
    record { one_each = omega (arith, ap (λ l. length l) c.eliminate-pivots.ensures.pivots, length_pivots (numerals units) (numerals rows), length_numerals rows, length_numerals found, same) }

pub returns-clause-remaining : goal.returns-clause-remaining
returns-clause-remaining c =
    let count = c.len-count.result in
    let array = c.array-patterns.result in
    let left = c.eliminate-pivots.new.patterns in
    let surviving = c.surviving_rows-surviving in
    let begins : take count array ≡ c.unit_patterns-units.result.items = ap (λ (n : ℕ). take n array) c.len-count.ensures.value ∙ c.array-patterns.ensures.front in
    let whole : count ≡ length left = omega (arith, c.eliminate-pivots.auto.patterns, ap (λ l. length l) begins, c.len-count.ensures.value) in
    ap numerals (c.begun.ensures ∙ ap (λ (n : ℕ). take n (left ++ drop count array)) whole ∙ take-append_seam left (drop count array))
    ∙ c.eliminate-pivots.ensures.remaining
    ∙ ap₂ remaining (ap numerals begins ∙ c.unit_patterns-units.ensures)
    (ap numerals c.as_slice.ensures.value ∙ surviving.ensures ∙ ap (survivors (has (numeral c.args.known))) (numerals_take c.args.symbols c.args.rows))
