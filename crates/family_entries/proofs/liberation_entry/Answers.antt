-- `family_entries::liberation_entry` meets its contract: the sum of the diagonal's row and what Q takes besides. Assumes nothing.
use mathlib.Core.Path.{ap₂, ◌∙◌}
use native.Mathlib.Omega.{arith}
use lib.Bits.{bit_xor}
use Rattle.family_codes.proofs.FamilyLaws.{listed_bounds, mod_is_row}
use Rattle.family_entries.proofs.liberation_entry.Goals as goal

pub overflow_add-row : goal.overflow_add-row
overflow_add-row c = omega (arith, listed_bounds c.args.family c.requires.0)

pub nonzero_rem-row : goal.nonzero_rem-row
nonzero_rem-row c = omega (arith, listed_bounds c.args.family c.requires.0)

pub identity_row-diagonal-requires : goal.identity_row-diagonal-requires
identity_row-diagonal-requires c = (c.requires.0, c.requires.3, mod_is_row c.args.family c.requires.0 _ _ c.requires.1)

pub extra_entry-requires : goal.extra_entry-requires
extra_entry-requires c =
    (c.requires.0, c.requires.1, c.requires.3)

pub returns : goal.returns
returns c = c.sum.ensures ∙ ap₂ bit_xor c.identity_row-diagonal.ensures c.extra_entry.ensures
