-- The invariant of `encoding::encode_symbols`: the symbols passed are encoded, the others as they were.
use Rattle.std.proofs.Common.{◌≡◌}
use Rattle.bits.specs.Numerals.{numerals}
use Rattle.encoding.proofs.EncodingLaws.{written_to}
use Rattle.encoding.proofs.encode_symbols.Given as goal

abbrev pub invariant-loop-s : goal.invariant-loop-s
invariant-loop-s l = l.stripe ≡ written_to l.size l.data_symbols (numerals l.rows) l.contents l.initial.stripe l.s
