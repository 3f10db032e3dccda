-- `prices::kinds::states_told` meets its contract. Assumes nothing.
use Rattle.std.proofs.Common.{◌≡◌, ℕ, ◌<◌, refl, ap, ◌∙◌, arith, length-set}
use Rattle.prices.specs.Prices.{is_state, state_of}
use Rattle.prices.specs.Kinds.{state_told}
use Rattle.prices.specs.declared.DiskState.TheVariants.{Away}
use Rattle.prices.proofs.KindLaws.{no_state_if_missing, all_stored}
use Rattle.prices.proofs.PriceLaws.{stored_more}
use Rattle.prices.proofs.kinds.states_told.Goals as goal

pub loop-disk-init : goal.loop-disk-init
loop-disk-init c = (refl, λ d below. absurd (omega arith))

pub loop-disk-preserved : goal.loop-disk-preserved
loop-disk-preserved c =
    let a = c.args in
    let loop = c.loop-disk in
    let taken = c.loop-disk-test.true in
    let told = state_told a.kinds.now a.prices.now a.factors.now in
    let state-is : c.state_of_kind-state.result ≡ told loop.disk =
    c.state_of_kind-state.ensures ∙ rw (c.kind_at-kind.ensures, c.number_at.ensures, c.number_at-in-loop-disk.ensures) in (
      length-set loop.states loop.disk c.state_of_kind-state.result ∙ loop.invariant.0,
      stored_more Away (λ d state. state ≡ told d) loop.states loop.disk c.state_of_kind-state.result (omega (arith, loop.invariant.0, taken)) loop.invariant.1 state-is,
    )

pub returns : goal.returns
returns c =
    let a = c.args in
    let loop = c.loop-disk in
    let told = state_told a.kinds.now a.prices.now a.factors.now in
    let each : (d : ℕ) → d < 64 → state_of loop.states d ≡ told d = λ d below. loop.invariant.1 d (omega (arith, c.loop-disk-test.false)) in record { told = all_stored told loop.states 64 loop.invariant.0 each; missing = λ d below missing. ap is_state (each d below) ∙ no_state_if_missing a.kinds.now a.prices.now a.factors.now d missing }
