-- The work of a priced plan once nothing is refused, for lost disks, away ones among them, and wanted symbols listed one by one.
use Rattle.std.specs.Prelude.{◌≡◌, Bool, List, ℕ, Float}
use Rattle.bits.specs.BitSets.{has}
use Rattle.bits.specs.Numerals.{numeral, numerals}
use Rattle.bits.specs.declared.BitSet.{BitSet}
use Rattle.codes.specs.Codes.{LinearCode}
use Rattle.plan_requests.specs.PlanRequests.{Asked, asked_symbols}
use Rattle.planning.specs.InnerPlan.{steps_found}
use Rattle.planning.specs.InnerWork.{RightSets, SheetWritten, PatternsTell}
use Rattle.prices.specs.declared.DiskState.{DiskState}
use Rattle.refusals.specs.Orders.{Answer, Gives, Refuses}
use Rattle.priced_planner.specs.PricedPlanner.{PricedFound, APlan, APatterns, steps_by_sets, BySwaps}

-- ------------------------------------------------------------------
-- What the work is handed

-- The wanted symbols, and the sets of the plan that ordinary planning gives
pub record StartHeld (code : LinearCode) (asked : Asked) (wanted : BitSet) (start : List BitSet) : Type 0 where
  pub wanted_are : (s : ℕ) → has (numeral wanted) s ≡ asked_symbols code asked s
  pub right : RightSets code asked (numerals start)
  pub steps_are : steps_by_sets code asked (numerals start) ≡ steps_found code asked

-- ------------------------------------------------------------------
-- What it answers and leaves

-- A plan sheet written at the front of the buffer, whose steps come by swaps
pub record PricedSheet (code : LinearCode) (asked : Asked) (states : List DiskState) (sheet_bytes reads : ℕ) (sum : Float) (settled : Bool) (before after : List ℕ) : Type 0 where
  pub written : SheetWritten code asked sheet_bytes reads before after
  pub by_swaps : BySwaps code asked states written.steps sum settled

-- A sheet, or patterns and nothing written
abbrev pub WorkedPriced : LinearCode → Asked → List DiskState → List ℕ → List ℕ → Answer PricedFound → Type 0
WorkedPriced code asked states before after (Gives (APlan sheet_bytes reads sum settled)) = PricedSheet code asked states sheet_bytes reads sum settled before after
WorkedPriced code asked states before after (Gives (APatterns patterns)) = PatternsTell code asked patterns × (after ≡ before)
WorkedPriced code asked states before after (Refuses refusal) = ⊥
