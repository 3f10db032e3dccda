-- The invariant of `row_passes::encode_symbol`: the target and what the row still takes make the encoded symbol.
use Rattle.std.proofs.Common.{◌-◌, ◌<◌, IfSome}
use Rattle.bits.specs.Numerals.{numeral}
use Rattle.row_passes.specs.InnerPasses.{next_or}
use Rattle.row_passes.proofs.PassLaws.{SummedTo}
use Rattle.row_passes.proofs.encode_symbol.Given as goal

abbrev pub invariant-loop-next : goal.invariant-loop-next
invariant-loop-next l =
    IfSome l.next (λ next. next < l.data_symbols)
    × SummedTo (numeral l.row) l.data_symbols l.size l.contents l.target (next_or l.data_symbols l.next)

abbrev pub decreases-loop-next : goal.decreases-loop-next
decreases-loop-next l = l.data_symbols - next_or l.data_symbols l.next
