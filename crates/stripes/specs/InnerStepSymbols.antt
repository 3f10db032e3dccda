-- What the steps of a plan need of a stripe that they are run on.
use mathlib.Core.List.{List, Memᴰ}
use Rattle.std.specs.Prelude.{ℕ}
use Rattle.gf2.specs.Stripes.{SymbolWithin}
use Rattle.gf2.specs.declared.Step.{Step}
use Rattle.gf2.specs.declared.Step.TheVariants.{Clear, Copy, Add}

-- The symbols that a step names lie within the stripe
abbrev pub StepSymbolsWithin : ℕ → ℕ → Step → Type 0
StepSymbolsWithin size stripe_bytes (Clear t) = SymbolWithin size stripe_bytes t
StepSymbolsWithin size stripe_bytes (Copy t s) = SymbolWithin size stripe_bytes t × SymbolWithin size stripe_bytes s
StepSymbolsWithin size stripe_bytes (Add t s) = SymbolWithin size stripe_bytes t × SymbolWithin size stripe_bytes s

-- Those of all steps do
abbrev pub AllSymbolsWithin : ℕ → ℕ → List Step → Type 0
AllSymbolsWithin size stripe_bytes steps = (step : Step) → Memᴰ step steps → StepSymbolsWithin size stripe_bytes step
