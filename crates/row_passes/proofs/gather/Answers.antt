-- `row_passes::gather` meets its contract. Assumes nothing.
use Rattle.std.proofs.Common.{◌≡◌, ap, ℕ, Option, IfSome, ◌+◌, ◌-◌, ◌<◌, subst, arith}
use Rattle.bits.specs.BitSets.{has}
use Rattle.bits.specs.Numerals.{numeral}
use Rattle.bits.proofs.SearchLaws.{first_from_between}
use Rattle.row_passes.specs.InnerPasses.{next_or, Gathers}
use Rattle.row_passes.proofs.GatherLaws.{next_found, gathers_none, gathers_more}
use Rattle.row_passes.proofs.gather.Goals as goal

pub loop-next-init : goal.loop-next-init
loop-next-init c =
    let args = c.args in
    let next = c.next_symbol-next in (
      next.ensures.below,
      gathers_none (numeral args.row) args.data_symbols (args.first + 1) (next_or args.data_symbols next.result) _ c.new-sources.ensures
          (next_found (numeral args.row) args.data_symbols (args.first + 1) _ (omega arith) next.ensures.first),
    )

pub loop-next-smaller : goal.loop-next-smaller
loop-next-smaller c =
    let source = c.in-Some.source in
    let below : source < c.args.data_symbols = subst (λ (o : Option ℕ). IfSome o (λ next. next < c.args.data_symbols)) c.in-Some.is c.loop-next.invariant.0 in
    let now : next_or c.args.data_symbols c.loop-next.next ≡ source = ap (next_or c.args.data_symbols) c.in-Some.is in
    omega
    (arith, now, c.next_symbol-next-in-Some.ensures.first, first_from_between (has (numeral c.args.row)) (c.args.data_symbols - (source + 1)) (source + 1))

pub loop-next-preserved : goal.loop-next-preserved
loop-next-preserved c =
    let args = c.args in
    let source = c.in-Some.source in
    let further = c.next_symbol-next-in-Some in
    let below : source < args.data_symbols = subst (λ (o : Option ℕ). IfSome o (λ next. next < args.data_symbols)) c.in-Some.is c.loop-next.invariant.0 in
    let so_far : Gathers (numeral args.row) args.data_symbols (args.first + 1) c.loop-next.sources.items source =
    subst (λ (o : Option ℕ). Gathers (numeral args.row) args.data_symbols (args.first + 1) c.loop-next.sources.items (next_or args.data_symbols o))
    c.in-Some.is c.loop-next.invariant.1 in (
      further.ensures.below,
      gathers_more (numeral args.row) args.data_symbols (args.first + 1) source (next_or args.data_symbols further.result) c.loop-next.sources.items _ so_far below
          c.push.ensures.items (next_found (numeral args.row) args.data_symbols (source + 1) _ (omega arith) further.ensures.first),
    )
