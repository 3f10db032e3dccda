-- `back_substitution::back_substitute` meets its contract. Assumes nothing.
use mathlib.Core.Path.{◌≡◌, sym, ◌∙◌}
use Prim.Native.Nat.{◌-◌}
use native.Mathlib.Omega.{arith}
use lib.ListN.{length}
use Rattle.bits.specs.Numerals.{numeral, numerals}
use Rattle.bits.proofs.NumeralLaws.{length_numerals, get_or_numerals}
use Rattle.back_substitution.proofs.SubstitutionLaws.{substituted_none, substituted_odd, substituted_even, substituted_all}
use Rattle.back_substitution.proofs.back_substitute.Goals as goal

pub loop-s-init : goal.loop-s-init
loop-s-init c =
    let args = c.args in
    let pivots = length_numerals args.pivots.now in
    let rows = length_numerals args.rows.now in
    let one_each : length (numerals args.pivots.now) ≡ length (numerals args.rows.now) = omega arith in
    rw c.empty-subset.ensures (substituted_none one_each (numeral args.row) (length args.rows.now) (omega arith))

pub loop-s-preserved-then-is_odd : goal.loop-s-preserved-then-is_odd
loop-s-preserved-then-is_odd c =
    let loop = c.loop-s in
    let args = c.args in
    let pivots = length_numerals args.pivots.now in
    let rows = length_numerals args.rows.now in
    let pivot = rw (get_or_numerals args.pivots.now (loop.s - 1)) at c.is_odd.ensures in
    let left = rw (get_or_numerals args.rows.now (loop.s - 1)) at c.sum-left.ensures in
    substituted_odd (omega arith) (omega arith) (omega arith) loop.invariant (sym pivot ∙ c.if-is_odd.true) c.with-subset.ensures left

pub loop-s-preserved : goal.loop-s-preserved
loop-s-preserved c =
    let loop = c.loop-s in
    let args = c.args in
    let pivots = length_numerals args.pivots.now in
    let rows = length_numerals args.rows.now in
    let pivot = rw (get_or_numerals args.pivots.now (loop.s - 1)) at c.is_odd.ensures in
    substituted_even (omega arith) (omega arith) (omega arith) loop.invariant (sym pivot ∙ c.if-is_odd.false)

pub returns : goal.returns
returns c = substituted_all (omega arith) c.loop-s.invariant
