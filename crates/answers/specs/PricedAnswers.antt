-- How the answers of priced planning (document 02, §14) go out to C. What a case does not have goes out as 0.
use Rattle.std.specs.Prelude.{cond, List, ◌≡◌, ℕ, length, get_or}
use Rattle.answers.specs.Answers.{Told}
use Rattle.answers.specs.declared.priced.OutPriced.{OutPriced}
use Rattle.plan_requests.specs.PlanRequests.{Asked}
use Rattle.priced_planner.specs.PricedPlanner.{PricedFound, APlan, APatterns, unpriced, PromisedPriced}
use Rattle.prices.specs.Prices.{float}
use Rattle.prices.specs.declared.DiskState.{DiskState}
use Rattle.refusals.specs.Orders.{Answer, Gives, Refuses}

-- A plan's length, read count and sum, with 1 for settled and 0 for stopped; or how many patterns there are and the first of them
abbrev pub out_priced : Answer PricedFound → OutPriced
out_priced (Gives (APlan plan_length reads sum settled)) =
    record { number = 0; place = 0; length = plan_length; reads = reads; settled = cond settled 1 0; sum = sum; pattern = 0; pattern_high = 0; patterns = 0 }
out_priced (Gives (APatterns patterns)) =
    record { number = 0; place = 0; length = 0; reads = 0; settled = 0; sum = float 0; pattern = get_or patterns 0 0; pattern_high = 0; patterns = length patterns }
out_priced (Refuses refusal) =
    record { number = refusal.number; place = refusal.place; length = 0; reads = 0; settled = 0; sum = float 0; pattern = 0; pattern_high = 0; patterns = 0 }

-- What is promised of what goes out: there is an answer that goes out so, can be told from what went out, and keeps all that priced planning promises
pub record PricedOut (code_sheet : List ℕ) (asked : Asked) (states : List DiskState) (before after : List ℕ) (out : OutPriced) : Type 0 where
  pub answer : Answer PricedFound
  pub goes_out : out ≡ out_priced answer
  -- exactly one of number, length and patterns is not 0
  pub told : Told (unpriced answer)
  pub promised : PromisedPriced code_sheet asked states before after answer
