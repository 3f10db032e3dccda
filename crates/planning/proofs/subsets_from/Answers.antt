-- `planning::subsets_from` meets its contract: the rows are the code's. Assumes nothing.
use mathlib.Core.Path.{sym, ◌∙◌}
use native.Mathlib.Omega.{arith}
use borrow.Author.Tests.{eqb-true, eqb-false}
use Rattle.codes.specs.Codes.{linear}
use Rattle.planning.proofs.RowLaws.{one_each, few}
use Rattle.planning.proofs.subsets_from.Goals as goal

pub eliminate_known-eliminated-requires-clause-rows_fit : goal.eliminate_known-eliminated-requires-clause-rows_fit
eliminate_known-eliminated-requires-clause-rows_fit c = omega (arith, c.symbols.ensures, c.args.code.now.within.symbols_to)

pub odd_pattern-requires : goal.odd_pattern-requires
odd_pattern-requires c = few (linear c.args.code.now) c.args.code.now.within _ c.matrix-rows.ensures

pub lost_patterns-requires : goal.lost_patterns-requires
lost_patterns-requires c = few (linear c.args.code.now) c.args.code.now.within _ c.matrix-rows.ensures

pub wanted_subsets-requires : goal.wanted_subsets-requires
wanted_subsets-requires c = few (linear c.args.code.now) c.args.code.now.within _ c.matrix-rows.ensures

pub returns-then-not-is_empty-clause-lost : goal.returns-then-not-is_empty-clause-lost
returns-then-not-is_empty-clause-lost c =
    let code = linear c.args.code.now in
    let rows = c.matrix-rows.ensures in
    let count = one_each code c.args.code.now.within _ rows in
    let solved = c.eliminate_known-eliminated.ensures in
    let left = solved.remaining in
    let pattern = rw (left, c.symbols.ensures, rows, count) at c.odd_pattern.ensures in
    record {
      some_odd = λ none. eqb-false _ 0 (sym c.is_empty.ensures ∙ c.if-not-is_empty.true) (pattern ∙ none);
      are = rw (left, c.symbols.ensures, rows) at c.lost_patterns.ensures;
    }

pub returns-clause-found : goal.returns-clause-found
returns-clause-found c =
    let code = linear c.args.code.now in
    let rows = c.matrix-rows.ensures in
    let count = one_each code c.args.code.now.within _ rows in
    let solved = c.eliminate_known-eliminated.ensures in
    let pattern = rw (solved.remaining, c.symbols.ensures, rows, count) at c.odd_pattern.ensures in
    record {
      none_odd = sym pattern ∙ eqb-true _ 0 (sym c.is_empty.ensures ∙ c.if-not-is_empty.false);
      are = rw (solved.pivots, solved.surviving, c.symbols.ensures, rows, count) at c.wanted_subsets.ensures;
    }
