-- The places of a step that names symbols are within the rows. Assumes nothing.
use Rattle.std.proofs.Common.{◌≡◌, sym, subst, ℕ, ◌<◌}
use Rattle.bits.specs.Numerals.{set_width}
use Rattle.gf2.specs.Plans.{target, NamesBelow}
use Rattle.gf2.specs.declared.Step.{Step}
use Rattle.gf2.proofs.PlanLaws.{target_below}
use Rattle.plans.specs.InnerProgress.{source_of}
use Rattle.plans.proofs.StepLaws.{source_below}

-- The place that it writes
pub named_target : (step : Step) (place : ℕ) → place ≡ target step → NamesBelow set_width step → place < set_width
named_target step place e named = subst (λ n. n < set_width) (sym e) (target_below set_width step named)

-- The place that it reads
pub named_source : (step : Step) (place : ℕ) → place ≡ source_of step → NamesBelow set_width step → place < set_width
named_source step place e named = subst (λ n. n < set_width) (sym e) (source_below set_width step named)
