-- `listed::layout_of` meets its contract: a listed family has at most 64 disks. Assumes nothing.
use native.Mathlib.Omega.{arith}
use Rattle.family_codes.proofs.FamilyLaws.{listed_bounds}
use Rattle.family_codes.proofs.listed.layout_of.Goals as goal

pub overflow_add-result : goal.overflow_add-result
overflow_add-result c = omega (arith, listed_bounds c.args.family c.requires)

pub returns : goal.returns
returns c = rw (c.data_disks_of.ensures, c.parity_disks_of.ensures, c.height_of.ensures)
