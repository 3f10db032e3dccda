-- The plan that planning gives: elimination over known symbols, all survivors or some of them, then for each wanted symbol the steps from its subset; and the
-- patterns that tell what is gone where the known symbols are too few.
use Rattle.std.specs.Prelude.{Bool, List, ℕ, get_or}
use Rattle.bits.specs.Lists.{symbols_in}
use Rattle.codes.specs.Codes.{LinearCode, symbols, matrix}
use Rattle.gf2.specs.InnerElimination.{remaining, pivots, units, back_substitute}
use Rattle.gf2.specs.InnerSubsetPlans.{plan_of, survivors}
use Rattle.gf2.specs.declared.Step.{Step}
use Rattle.plan_requests.specs.PlanRequests.{Asked, asked_symbols}
use Rattle.plans.specs.Judgement.{survives}
use Rattle.solve.specs.InnerSolving.{odd_pattern}
use Rattle.spans.specs.InnerSpans.{lost_patterns}

-- The wanted symbols, one after the other
abbrev pub targets : LinearCode → Asked → List ℕ
targets code asked = symbols_in (asked_symbols code asked) 0 (symbols code)

-- ------------------------------------------------------------------
-- From known symbols

-- Their rows
abbrev pub known_rows : LinearCode → (ℕ → Bool) → List ℕ
known_rows code known = survivors known (matrix code)

-- The patterns that remain after them, and their pivots
abbrev pub patterns_left_by : LinearCode → (ℕ → Bool) → List ℕ
patterns_left_by code known = remaining (units code.data_symbols) (known_rows code known)

abbrev pub pivots_from : LinearCode → (ℕ → Bool) → List ℕ
pivots_from code known = pivots (units code.data_symbols) (known_rows code known)

-- The first of the patterns that is odd on a wanted row
abbrev pub pattern_found_by : LinearCode → Asked → (ℕ → Bool) → ℕ
pattern_found_by code asked known = odd_pattern (patterns_left_by code known) (matrix code) (targets code asked)

-- The patterns that the wanted rows take of those that remain
abbrev pub patterns_gone_by : LinearCode → Asked → (ℕ → Bool) → List ℕ
patterns_gone_by code asked known = lost_patterns (patterns_left_by code known) (survivors (asked_symbols code asked) (matrix code))

-- The subset of the known symbols for a symbol
abbrev pub subset_from : LinearCode → (ℕ → Bool) → ℕ → ℕ
subset_from code known t = back_substitute (pivots_from code known) (known_rows code known) (get_or (matrix code) t 0)

-- The steps from the wanted symbols' subsets
abbrev pub steps_from : LinearCode → Asked → (ℕ → Bool) → List Step
steps_from code asked known = plan_of (subset_from code known) (symbols code) (targets code asked)

-- ------------------------------------------------------------------
-- From all survivors: what planning gives

abbrev pub surviving_rows : LinearCode → Asked → List ℕ
surviving_rows code asked = known_rows code (survives code.layout asked.disks)

abbrev pub patterns_left : LinearCode → Asked → List ℕ
patterns_left code asked = patterns_left_by code (survives code.layout asked.disks)

abbrev pub pattern_found : LinearCode → Asked → ℕ
pattern_found code asked = pattern_found_by code asked (survives code.layout asked.disks)

abbrev pub patterns_gone : LinearCode → Asked → List ℕ
patterns_gone code asked = patterns_gone_by code asked (survives code.layout asked.disks)

abbrev pub steps_found : LinearCode → Asked → List Step
steps_found code asked = steps_from code asked (survives code.layout asked.disks)
