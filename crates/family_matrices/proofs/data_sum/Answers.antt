-- `family_matrices::data_sum` meets its contract. Assumes nothing.
use Rattle.std.proofs.Common.{◌≡◌, ℕ, ap, ◌∙◌, arith}
use Rattle.family_codes.specs.Families.{data_disks, sum_over}
use Rattle.family_entries.specs.InnerEntries.{number_of, entry_of}
use Rattle.family_matrices.proofs.MatrixLaws.{sum_over_turn}
use Rattle.family_matrices.proofs.data_sum.Goals as goal

pub loop-disk-init : goal.loop-disk-init
unfolding sum_over
loop-disk-init c = c.empty-total.ensures

pub loop-disk-preserved : goal.loop-disk-preserved
loop-disk-preserved c =
    let a = c.args in
    sum_over_turn c.loop-disk.disk (entry_of a.family (number_of a.parity) a.row) _ _ _ c.loop-disk.invariant c.entry_of.ensures c.sum-total.ensures

pub returns : goal.returns
returns c =
    let a = c.args in
    let all : c.loop-disk.disk ≡ data_disks a.family = omega (arith, c.data_disks_of-disks.ensures) in
    c.loop-disk.invariant ∙ ap (λ (n : ℕ). sum_over n (entry_of a.family (number_of a.parity) a.row)) all
