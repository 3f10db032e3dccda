-- `family_entries::diagonal_entry` meets its contract. Assumes nothing.
use native.Mathlib.Omega.{arith}
use borrow.Author.Tests.{le-ltb, lt-ltb}
use Rattle.family_codes.specs.Families.{diagonal_entry}
use Rattle.family_codes.proofs.FamilyLaws.{listed_bounds}
use Rattle.family_entries.proofs.diagonal_entry.Goals as goal

pub overflow_add-from : goal.overflow_add-from
overflow_add-from c = omega (arith, listed_bounds c.args.family c.requires.0)

pub returns-then-p-from : goal.returns-then-p-from
unfolding diagonal_entry
returns-then-p-from c = simp (le-ltb _ _ c.if-p-from.true) c.empty.ensures

pub identity_row-requires : goal.identity_row-requires
identity_row-requires c =
    (c.requires.0, c.requires.4, omega (arith, c.if-p-from.false))

pub returns : goal.returns
unfolding diagonal_entry
returns c = simp (lt-ltb _ _ c.if-p-from.false) c.identity_row.ensures
