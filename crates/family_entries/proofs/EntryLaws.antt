-- Laws of what a row of the generator matrix takes of a disk. Assumes nothing.
use mathlib.Core.Path.{◌≡◌, ap, ap₂, ◌∙◌}
use Prim.Native.Nat.{ℕ, ◌+◌, ◌^◌}
use lib.Bits.{or_zero_l}
use Rattle.bits.specs.BitSets.{with}
use Rattle.codes.specs.Layouts.{first_symbol}
use Rattle.codes.specs.declared.Layout.{Layout}
use Rattle.family_codes.specs.declared.Family.{Family}
use Rattle.family_codes.specs.Families.{unit, entry, family_layout}

-- The leaf's set of one bit
pub with_none_unit : (symbol : ℕ) → with 0 symbol ≡ unit symbol
unfolding with unit
with_none_unit symbol = or_zero_l (2 ^ symbol)

-- An identity row as the program makes it
pub entry_made : (family : Family) (layout : Layout) (disk row first none : ℕ) → layout ≡ family_layout family
    → first ≡ first_symbol layout disk → none ≡ 0 → with none (first + row) ≡ entry family disk row
entry_made family layout disk row first none e f g =
    ap₂ with g (ap (λ (n : ℕ). n + row) (f ∙ ap (λ (l : Layout). first_symbol l disk) e)) ∙ with_none_unit (first_symbol (family_layout family) disk + row)
