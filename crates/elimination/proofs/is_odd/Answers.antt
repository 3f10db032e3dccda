-- `elimination::is_odd` meets its contract: sets that share nothing don't overlap oddly. Assumes nothing.
use mathlib.Core.Path.{sym, ap, ◌∙◌}
use Prim.Native.Nat.{ℕ, ◌%◌}
use lib.Dec.{eqb}
use borrow.Author.Tests.{eqb-true}
use Rattle.bits.specs.BitSets.{count, count_in, overlap}
use Rattle.bits.specs.Numerals.{numeral}
use Rattle.elimination.proofs.is_odd.Goals as goal

pub returns-then-is_empty : goal.returns-then-is_empty
unfolding overlap count count_in
returns-then-is_empty c =
    let shared = c.common in
    let none = sym shared.ensures ∙ eqb-true (numeral shared.result) 0 (sym c.is_empty.ensures ∙ c.if-is_empty.true) in
    sym (ap (λ (n : ℕ). eqb (count n % 2) 1) none)

pub returns : goal.returns
returns c = c.odd_overlap.ensures
