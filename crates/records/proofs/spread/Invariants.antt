-- The invariant of `records::spread`: the bits passed are stored, and those left are those of the rest.
use Prim.Native.Nat.{◌/◌, ◌%◌}
use Rattle.records.proofs.MadeLaws.{Storing}
use Rattle.records.proofs.spread.Given as goal

abbrev pub invariant-loop-bit : goal.invariant-loop-bit
invariant-loop-bit l = Storing (λ rest. rest % 2) (λ rest. rest / 2) l.initial.bit-items l.pattern l.bit-items l.rest l.bit-index
