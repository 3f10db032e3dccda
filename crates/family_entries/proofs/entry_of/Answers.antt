-- `family_entries::entry_of` meets its contract: P, then Q. Assumes nothing.
use Rattle.family_entries.specs.InnerEntries.{entry_of}
use Rattle.family_entries.proofs.entry_of.Goals as goal

pub returns-in-P : goal.returns-in-P
unfolding entry_of
returns-in-P c = rw c.in-P.is c.identity_row.ensures

pub returns-in-Q : goal.returns-in-Q
unfolding entry_of
returns-in-Q c = rw c.in-Q.is c.q_entry.ensures
