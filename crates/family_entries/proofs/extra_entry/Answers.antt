-- `family_entries::extra_entry` meets its contract. Assumes nothing.
use Prim.Native.Nat.{◌-◌, ◌*◌, ◌/◌}
use native.Mathlib.Omega.{arith}
use native.Mathlib.Nat.{mul-le-mul, mod-lt}
use borrow.Author.Tests.{le-leb, lt-leb, eq-eqb, ne_eqb}
use Rattle.family_codes.specs.Families.{extra_entry}
use Rattle.family_codes.proofs.FamilyLaws.{listed_bounds, mod_is_row}
use Rattle.family_entries.proofs.extra_entry.Goals as goal
use Rattle.family_entries.proofs.extra_entry.Goals.{then-disk-lt1-via-then-disk-lt1, then-disk-lt1-via-else-disk-lt1+then-extra_row-row}

pub returns-then-disk-lt1 : goal.returns-then-disk-lt1
unfolding extra_entry
returns-then-disk-lt1 c =
    elim c.then-disk-lt1.branch [
      | then-disk-lt1-via-then-disk-lt1 w ↦ simp (lt-leb 1 _ w.if-disk-lt1.true) c.empty.ensures
      | then-disk-lt1-via-else-disk-lt1+then-extra_row-row w ↦ simp (le-leb 1 _ w.if-disk-lt1.false, ne_eqb _ _ w.if-extra_row-row.true) c.empty.ensures
    ]

pub overflow_sub-extra_row : goal.overflow_sub-extra_row
overflow_sub-extra_row c = omega (arith, listed_bounds c.args.family c.requires.0)

pub overflow_mul-extra_row : goal.overflow_mul-extra_row
overflow_mul-extra_row c =
    let a = c.args in
    let b = listed_bounds a.family c.requires.0 in
    omega (arith, mul-le-mul {n₁ = a.disk} {m₁ = a.w - 1} {n₂ = 64} {m₂ = 32} (omega arith) (omega arith))

pub nonzero_rem-extra_row : goal.nonzero_rem-extra_row
nonzero_rem-extra_row c = omega (arith, listed_bounds c.args.family c.requires.0)

pub overflow_add-extra_row : goal.overflow_add-extra_row
overflow_add-extra_row c =
    let a = c.args in
    let b = listed_bounds a.family c.requires.0 in
    omega (arith, mod-lt (a.disk * (a.w - 1) / 2) {m = a.w} (omega arith))

pub nonzero_rem-extra_row-2 : goal.nonzero_rem-extra_row-2
nonzero_rem-extra_row-2 c = omega (arith, listed_bounds c.args.family c.requires.0)

pub identity_row-requires : goal.identity_row-requires
identity_row-requires c =
    (c.requires.0, c.requires.2, mod_is_row c.args.family c.requires.0 _ _ c.requires.1)

pub returns : goal.returns
unfolding extra_entry
returns c = simp (le-leb 1 _ c.if-disk-lt1.false, eq-eqb _ _ c.if-extra_row-row.false) c.identity_row.ensures
