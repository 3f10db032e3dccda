-- The invariant of `sheets::write_list`: the count is stored and the entries passed are copied behind it.
use mathlib.Core.Path.{◌≡◌}
use Prim.Native.Nat.{◌+◌}
use lib.Seq.{paste}
use Rattle.sheets.proofs.write_list.Given as goal

abbrev pub invariant-loop-i : goal.invariant-loop-i
invariant-loop-i l = l.buffer ≡ paste l.initial.buffer (l.at + 1) l.list l.i
