-- `prices::states::first_bad_state` meets its contract. Assumes nothing.
use Rattle.std.proofs.Common.{not, sym, ap, ◌∙◌, zero-add, arith, below_more}
use Rattle.bits.proofs.SearchLaws.{first_from_none, first_from_found}
use Rattle.prices.specs.Prices.{is_state, state_of}
use Rattle.prices.proofs.states.first_bad_state.Goals as goal

pub loop-disk-init : goal.loop-disk-init
loop-disk-init c = λ d below. absurd (omega arith)

pub returns-then-not-is_state : goal.returns-then-not-is_state
returns-then-not-is_state c =
    let a = c.args in
    let loop = c.loop-disk in
    sym (first_from_found (λ d. not (is_state (state_of a.states.now d))) a.disks 0 loop.disk (omega arith) (omega arith) (λ d from below. loop.invariant d below)
    (ap not (sym c.is_state.ensures ∙ c.if-not-is_state.true)))

pub loop-disk-preserved : goal.loop-disk-preserved
loop-disk-preserved c =
    let loop = c.loop-disk in
    below_more _ loop.disk loop.invariant (ap not (sym c.is_state.ensures ∙ c.if-not-is_state.false))

pub returns : goal.returns
returns c =
    let a = c.args in
    let loop = c.loop-disk in
    sym (first_from_none (λ d. not (is_state (state_of a.states.now d))) a.disks 0 (λ d from below. loop.invariant d (omega arith)) ∙ zero-add a.disks)
