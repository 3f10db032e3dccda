-- `swaps::ReadingTerms::swap_among` meets its contract. Assumes nothing.
use mathlib.Core.Path.{sym, ◌∙◌}
use mathlib.Core.Bool.{true≢false}
use native.Mathlib.Omega.{arith}
use borrow.Author.Count.{below_more}
use Rattle.bits.specs.Numerals.{numerals}
use Rattle.bits.proofs.NumeralLaws.{length_numerals, get_or_numerals}
use Rattle.swaps.specs.InnerSwaps.{terms}
use Rattle.swaps.proofs.SwapLaws.{tested_is_lowers}
use Rattle.swaps.proofs.ReadingTerms.swap_among.Goals as goal
use Rattle.swaps.proofs.ReadingTerms.swap_among.Goals.{then-has+in_default, else-has}

pub read_by_others-others-requires : goal.read_by_others-others-requires
read_by_others-others-requires c = omega (arith, c.requires.0.one_each, length_numerals c.args.sets.now)

pub bounds-sets-target : goal.bounds-sets-target
bounds-sets-target c = omega (arith, c.requires.0.one_each, length_numerals c.args.sets.now)

pub returns-in-Some : goal.returns-in-Some
returns-in-Some c =
    let a = c.args in
    let equations = a.self.now.equations.items in
    let loop = c.loop-target in
    let found = c.in-Some.ensures.found in
    let lowers_is = tested_is_lowers (terms a.self.now) (numerals a.sets.now) loop.target (omega (arith, c.requires.0.one_each)) _ _ a.cost
    c.read_by_others-others.ensures (get_or_numerals a.sets.now loop.target) c.requires.0.cost_is c.in-Some.equation in
    record {
      of_wanted = sym c.has.ensures ∙ c.if-has.true;
      of_list = omega (arith, found.0, length_numerals equations);
      lower = sym lowers_is ∙ found.1;
    }

pub loop-target-preserved : goal.loop-target-preserved
loop-target-preserved c =
    let a = c.args in
    let equations = a.self.now.equations.items in
    let loop = c.loop-target in
    below_more _ loop.target loop.invariant
    (λ from e is_wanted listed.
    elim c.if-has.branch [
      | then-has+in_default w ↦
          sym (tested_is_lowers (terms a.self.now) (numerals a.sets.now) loop.target (omega (arith, c.requires.0.one_each)) _ _ a.cost
          w.read_by_others-others.ensures (get_or_numerals a.sets.now loop.target) c.requires.0.cost_is e)
          ∙ w.in_default.ensures.none e (omega (arith, length_numerals equations))
      | else-has w ↦ absurd (true≢false (sym is_wanted ∙ sym c.has.ensures ∙ w.if-has.false))
    ])
