-- `bits::first_difference` meets its contract: the zeros below the lowest bit of the sum are counted. Assumes nothing.
use mathlib.Core.Path.{ap, ◌∙◌}
use Prim.Native.Nat.{ℕ}
use lib.Dec.{ltb}
use borrow.Author.Rules.{rules}
use Rattle.bits.specs.Numerals.{set_width, numeral}
use Rattle.bits.proofs.DifferenceLaws.{zeros_fit, zeros_of_sum, differ_within_set}
use Rattle.bits.proofs.first_difference.Goals as goal

pub overflow_cast-result : goal.overflow_cast-result
overflow_cast-result c = zeros_fit _

pub returns : goal.returns
unfolding numeral
returns c =
    let a = c.args.a.word in
    let b = c.args.b.word in
    let lowest = zeros_of_sum a b in
    record { lowest = lowest; equal = ap (λ (n : ℕ). ltb n set_width) lowest ∙ differ_within_set a b (search rules) (search rules) }
