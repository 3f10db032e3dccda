-- `priced_planner::lost_lists::entries_of` meets its contract. Assumes nothing.
use mathlib.Core.Path.{refl, sym, ap, ◌∙◌}
use mathlib.Core.List.{List, ◌++◌}
use Prim.Native.Nat.{ℕ, ◌+◌, ◌-◌}
use native.Mathlib.Nat.{sub-zero}
use native.Mathlib.Omega.{arith}
use lib.ListN.{length}
use Rattle.bits.specs.BitSets.{has}
use Rattle.bits.specs.Lists.{symbols_in}
use Rattle.bits.specs.Numerals.{numeral}
use Rattle.priced_planner.proofs.SymbolListLaws.{entry_pushed, symbols_without, all_entries}
use Rattle.priced_planner.proofs.lost_lists.entries_of.Goals as goal
use Rattle.priced_planner.proofs.lost_lists.entries_of.Goals.{then-has, else-has}

pub loop-number-init : goal.loop-number-init
loop-number-init c =
    let none = c.new-entries.ensures in
    record { few = omega (arith, ap (λ (l : List ℕ). length l) none); so_far = rw (none, sub-zero c.args.bound) refl }

pub loop-number-preserved : goal.loop-number-preserved
loop-number-preserved c =
    let a = c.args in
    let loop = c.loop-number in
    let taken = c.loop-number-test.true in
    let test = sym c.has.ensures in
    let all = has (numeral a.set) in
    let later = symbols_in all (loop.number + 1) (a.bound - (loop.number + 1)) in
    elim c.if-has.branch [
      | then-has w ↦
          rw w.entries-is
          (record {
            few = omega (arith, w.push.ensures.len, loop.invariant.few);
            so_far = ap (λ (l : List ℕ). l ++ later) w.push.ensures.items ∙ entry_pushed all loop.entries.items a.bound loop.number taken (test ∙ w.if-has.true) loop.invariant.so_far;
          })
      | else-has w ↦
          rw w.entries-is
          (record {
            few = omega (arith, loop.invariant.few);
            so_far = ap (λ (l : List ℕ). loop.entries.items ++ l) (sym (symbols_without all a.bound loop.number taken (test ∙ w.if-has.false))) ∙ loop.invariant.so_far;
          })
    ]

pub returns : goal.returns
returns c =
    let a = c.args in
    let loop = c.loop-number in
    all_entries (has (numeral a.set)) loop.entries.items a.bound loop.number c.loop-number-test.false loop.invariant.so_far
