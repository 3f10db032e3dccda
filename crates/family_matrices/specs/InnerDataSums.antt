-- The sums over the data disks of which the program makes parity rows. Document 01 has no word for them.
use Rattle.std.specs.Prelude.{ℕ}
use Rattle.family_codes.specs.declared.Family.{Family}
use Rattle.family_codes.specs.Families.{data_disks, sum_over}
use Rattle.family_entries.specs.InnerEntries.{entry_of}

-- The XOR of what row i of a parity disk, counted from 0, takes of each data disk
abbrev pub data_sum : Family → ℕ → ℕ → ℕ
data_sum family parity i = sum_over (data_disks family) (entry_of family parity i)
