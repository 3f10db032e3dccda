-- What a row of a parity disk takes of each data disk. Document 01 has no word for it.
use Rattle.std.specs.Prelude.{cond, ℕ, eqb}
use Rattle.family_codes.specs.declared.Family.{Family}
use Rattle.family_codes.specs.declared.Family.TheVariants.{SingleParity, Liberation, RowDiagonal, EvenOdd}
use Rattle.family_entries.specs.declared.Parity.{Parity}
use Rattle.family_entries.specs.declared.Parity.TheVariants.{P, Q}
use Rattle.family_codes.specs.Families.{entry, liberation_entry, diagonal_entry}

-- What Q row i takes of data disk c. Single parity has no Q
abbrev pub q_entry : Family → ℕ → ℕ → ℕ
q_entry (SingleParity k r) i c = 0
q_entry (Liberation w k) i c = liberation_entry (Liberation w k) w i c
q_entry (RowDiagonal p) i c = diagonal_entry (entry (RowDiagonal p)) p i c
q_entry (EvenOdd p) i c = diagonal_entry (entry (EvenOdd p)) p i c

-- The parity disks, counted from 0
abbrev pub number_of : Parity → ℕ
number_of P = 0
number_of Q = 1

-- What row i of a parity disk, counted from 0, takes of data disk c: P row i, Q what its family says
unfoldable pub entry_of : Family → ℕ → ℕ → ℕ → ℕ
entry_of family parity i c = cond (eqb parity 0) (entry family c i) (q_entry family i c)
