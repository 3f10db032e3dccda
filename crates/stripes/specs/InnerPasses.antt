-- A step and the adds to its target that follow it, which one pass does.
use Rattle.std.specs.Prelude.{◌≡◌, Bool, ◌&&◌, not, ◌≢◌, ℕ, ◌-◌, ◌≤◌, eqb, leb, drop}
use mathlib.Core.List.{List, ◌++◌, map, Memᴰ}
use Rattle.gf2.specs.declared.Step.{Step}
use Rattle.gf2.specs.declared.Step.TheVariants.{Add}
use Rattle.plan_sheets.specs.PlanSheets.{step_of, steps_length, sheet_steps}
use Rattle.plan_sheets.specs.declared.step.SheetStep.{SheetStep}

-- The step adds another symbol to t
abbrev pub adds_other : ℕ → SheetStep → Bool
adds_other t step = leb 2 step.kind && eqb step.target t && not (eqb step.source t)

-- Symbols added to t, one after the other
abbrev pub adds_to : ℕ → List ℕ → List Step
adds_to t sources = map (λ s. Add t s) sources

-- The steps that remain when `number` of `count` are done
abbrev pub remaining_steps : List ℕ → ℕ → ℕ → List Step
remaining_steps bytes count number = map step_of (sheet_steps (count - number) (drop (steps_length number) bytes))

-- The steps from one on are adds of these symbols to t, none of them t, and then those from another on
pub record TakenIn (bytes : List ℕ) (count t from number : ℕ) (taken : List ℕ) : Type 0 where
  pub number_to : number ≤ count
  pub adds : remaining_steps bytes count from ≡ adds_to t taken ++ remaining_steps bytes count number
  pub others : (s : ℕ) → Memᴰ s taken → s ≢ t
