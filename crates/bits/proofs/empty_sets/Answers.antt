-- `bits::empty_sets` meets its contract. Assumes nothing.
use mathlib.Core.Path.{ap, ◌∙◌}
use Prim.Native.Nat.{ℕ}
use lib.ListN.{replicate}
use Rattle.bits.specs.Numerals.{set_width}
use Rattle.bits.proofs.NumeralLaws.{numerals_replicate}
use Rattle.bits.proofs.empty_sets.Goals as goal

pub returns : goal.returns
returns c = numerals_replicate set_width c.empty.result ∙ ap (λ (n : ℕ). replicate set_width n) c.empty.ensures
