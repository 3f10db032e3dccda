-- The invariant of `records::digest`: what the bytes that remain make of the sum, which is below the modulus, is the digest.
use mathlib.Core.Path.{◌≡◌}
use Prim.Native.Nat.{◌<◌}
use lib.ListN.{drop}
use Rattle.records.specs.Records.{digest_from}
use Rattle.records.proofs.digest.Given as goal

abbrev pub invariant-loop-byte : goal.invariant-loop-byte
invariant-loop-byte l = (l.sum < 4294967291) × (digest_from l.sum (drop l.byte-index l.bytes) ≡ digest_from 0 l.bytes)
