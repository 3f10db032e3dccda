-- `plan_heads::wanted_test` meets its contract: a bad list is told by its position. Assumes nothing.
use Rattle.std.proofs.Common.{◌≡◌, ◌∙◌, ap, rules, ℕ, Result, Ok, Err}
use Rattle.std.specs.Result.{MatchResult, IsErrAnd}
use Rattle.std.proofs.lemmas.Result.{MatchResult-weaker}
use Rattle.lists.specs.Lists.{outcome_at}
use Rattle.refusals.specs.Orders.{outcome, Refused}
use Rattle.refusals.specs.Refusals.{◌at◌, numbered}
use Rattle.refusals.specs.declared.Refusal.{Refusal}
use Rattle.refusals.specs.declared.Refusal.TheVariants.{BadWantedList}
use Rattle.plan_heads.proofs.wanted_test.Goals as goal

-- A position that is told becomes the refusal's place
told_by_place : (told : Result Unit ℕ) (result : Result Unit Refusal)
    → MatchResult told (λ x. result ≡ Ok x) (λ position. IsErrAnd result (λ refusal. refusal ≡ BadWantedList position))
    → outcome result ≡ outcome_at (λ position. 23 at position) told
told_by_place (Ok x) result e = ap outcome e
told_by_place (Err position) (Ok x) e = absurd e
told_by_place (Err position) (Err refusal) e = ap (λ r. Refused (numbered r)) e

pub returns : goal.returns
returns c =
    rw (← c.least_wanted.ensures, ← c.most_wanted.ensures)
    (told_by_place c.list_test.result c.map_err.result (search (rules, MatchResult-weaker)) ∙ c.list_test.ensures (λ position. 23 at position))
