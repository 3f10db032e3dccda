-- `priced_planner::lost_lists::lost_disks` meets its contract. Assumes nothing.
use mathlib.Core.Path.{◌≡◌, sym, ap, ◌∙◌}
use Prim.Native.Nat.{ℕ}
use native.Mathlib.Omega.{arith}
use Rattle.bits.specs.Numerals.{numeral}
use Rattle.priced_planner.specs.PricedPlanner.{is_lost}
use Rattle.priced_planner.proofs.SymbolListLaws.{none_away_yet, away_joins, not_away_passes}
use Rattle.priced_planner.proofs.lost_lists.lost_disks.Goals as goal
use Rattle.priced_planner.proofs.lost_lists.lost_disks.Goals.{then-is_away, else-is_away}

pub set_of-lost-requires : goal.set_of-lost-requires
set_of-lost-requires c = λ i h. omega (arith, c.requires.1 i h, c.requires.0)

pub loop-disk-init : goal.loop-disk-init
loop-disk-init c =
    let a = c.args in
    λ d. c.set_of-lost.ensures d ∙ none_away_yet a.asked.now a.states.now d

pub loop-disk-preserved : goal.loop-disk-preserved
loop-disk-preserved c =
    let a = c.args in
    let loop = c.loop-disk in
    let test = sym c.is_away.ensures in
    elim c.if-is_away.branch [
      | then-is_away w ↦ rw w.lost-is (away_joins a.asked.now a.states.now loop.disk (numeral loop.lost) (test ∙ w.if-is_away.true) loop.invariant w.with-lost.ensures)
      | else-is_away w ↦ rw w.lost-is (not_away_passes a.asked.now a.states.now loop.disk (numeral loop.lost) (test ∙ w.if-is_away.false) loop.invariant)
    ]

pub returns : goal.returns
returns c =
    let a = c.args in
    let loop = c.loop-disk in
    let all : loop.disk ≡ a.disks = omega arith in
    λ d. loop.invariant d ∙ ap (λ (n : ℕ). is_lost a.asked.now a.states.now n d) all
