-- `swaps::read_by` meets its contract. Assumes nothing.
use mathlib.Core.Path.{sym, ap, ◌∙◌}
use Prim.Native.Nat.{ℕ, ◌+◌}
use native.Mathlib.Omega.{arith}
use lib.Bits.{bit_or, or_zero_l, or_zero_r}
use lib.ListN.{drop}
use Rattle.bits.specs.Numerals.{numeral, numerals}
use Rattle.bits.proofs.NumeralLaws.{length_numerals, get_or_numerals}
use Rattle.swaps.specs.Swaps.{read_by}
use Rattle.swaps.proofs.UnionLaws.{or_assoc, read_from, read_behind}
use Rattle.swaps.proofs.read_by.Goals as goal

pub loop-set-init : goal.loop-set-init
loop-set-init c =
    let all = read_by (numerals c.args.sets.now) in
    ap (λ (n : ℕ). bit_or n all) c.empty-read.ensures ∙ or_zero_l all

pub loop-set-preserved : goal.loop-set-preserved
loop-set-preserved c =
    let sets = c.args.sets.now in
    let loop = c.loop-set in
    let at = loop.set-index in
    let later = read_by (drop (at + 1) (numerals sets)) in
    ap (λ (n : ℕ). bit_or n later) (c.union-read.ensures ∙ ap (bit_or (numeral loop.read)) (get_or_numerals sets at))
    ∙ or_assoc (numeral loop.read) _ later
    ∙ ap (bit_or (numeral loop.read)) (sym (read_from (numerals sets) at (omega (arith, length_numerals sets))))
    ∙ loop.invariant

pub returns : goal.returns
returns c =
    let sets = c.args.sets.now in
    let loop = c.loop-set in
    sym (or_zero_r (numeral loop.read))
    ∙ ap (bit_or (numeral loop.read)) (sym (read_behind (numerals sets) loop.set-index (omega (arith, length_numerals sets))))
    ∙ loop.invariant
