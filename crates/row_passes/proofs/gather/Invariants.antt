-- The invariant of `row_passes::gather`: the row's data symbols are those gathered and those from the next on.
use Rattle.std.proofs.Common.{◌+◌, ◌-◌, ◌<◌, IfSome}
use Rattle.bits.specs.Numerals.{numeral}
use Rattle.row_passes.specs.InnerPasses.{next_or, Gathers}
use Rattle.row_passes.proofs.gather.Given as goal

abbrev pub invariant-loop-next : goal.invariant-loop-next
invariant-loop-next l =
    IfSome l.next (λ next. next < l.data_symbols)
    × Gathers (numeral l.row) l.data_symbols (l.first + 1) l.sources.items (next_or l.data_symbols l.next)

abbrev pub decreases-loop-next : goal.decreases-loop-next
decreases-loop-next l = l.data_symbols - next_or l.data_symbols l.next
