-- `lists::wanted_test` meets its contract. Assumes nothing.
use Rattle.std.proofs.Common.{sym, ap, ◌∙◌}
use Rattle.lists.specs.Lists.{outcome_at}
use Rattle.refusals.specs.Refusals.{◌at◌}
use Rattle.lists.proofs.wanted_test.Goals as goal

pub returns-in-Ok : goal.returns-in-Ok
returns-in-Ok c = ap (outcome_at (λ position. 23 at position)) (sym c.in-Ok.is) ∙ c.list_test.ensures (λ position. 23 at position)

pub returns-in-Err : goal.returns-in-Err
returns-in-Err c = ap (outcome_at (λ position. 23 at position)) (sym c.in-Err.is) ∙ c.list_test.ensures (λ position. 23 at position)
