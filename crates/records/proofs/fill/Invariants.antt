-- The invariant of `records::fill`: the bytes passed are stored, and those left are made of the state, which is below 2 ^ 31.
use Prim.Native.Nat.{◌%◌, ◌<◌}
use Rattle.records.specs.Records.{next_state, state_byte}
use Rattle.records.proofs.MadeLaws.{Storing}
use Rattle.records.proofs.fill.Given as goal

abbrev pub invariant-loop-byte : goal.invariant-loop-byte
invariant-loop-byte l = (l.state < 2147483648) × Storing state_byte next_state l.initial.buffer (l.seed % 2147483648) l.buffer l.state l.byte-index
