-- `equations::equations_among` meets its contract: there is a surviving row for each row. Assumes nothing.
use mathlib.Core.Path.{◌≡◌, ap, ap₂, ◌∙◌}
use mathlib.Core.List.{List}
use Prim.Native.Nat.{ℕ}
use native.Mathlib.Omega.{arith}
use lib.ListN.{length, take}
use Rattle.bits.specs.BitSets.{has}
use Rattle.bits.specs.Numerals.{numeral, numerals}
use Rattle.bits.proofs.NumeralLaws.{length_numerals}
use Rattle.gf2.specs.InnerElimination.{nonempty}
use Rattle.gf2.proofs.PlanningLaws.{length_survivors}
use Rattle.spans.specs.InnerSpans.{row_equations, unpivoted}
use Rattle.equations.proofs.equations_among.Goals as goal

pub returns : goal.returns
returns c =
    let rows = take c.args.symbols (numerals c.args.rows) in
    let known = has (numeral c.args.known) in
    let found = c.eliminate_known-eliminated in
    let surviving = found.ensures.surviving in
    let symbols : length found.result.surviving.items ≡ length rows =
    omega (arith, length_numerals found.result.surviving.items, ap (λ l. length l) surviving, length_survivors known rows) in
    let same = λ (f s : List ℕ) (n : ℕ). row_equations f s n (unpivoted f known) in
    c.nonempty_sets.ensures
    ∙ ap nonempty
    (ap numerals c.as_slice.ensures.value
    ∙ c.row_equations-of_rows.ensures
    ∙ ap₂ (λ (f s : List ℕ). same f s (length found.result.surviving.items)) found.ensures.pivots surviving
    ∙ ap (same _ _) symbols)
