-- `swaps::read_by_others` meets its contract. Assumes nothing.
use mathlib.Core.Path.{sym, ap, ap₂, ◌∙◌}
use mathlib.Core.List.{List}
use Prim.Native.Nat.{◌+◌, ◌-◌}
use native.Mathlib.Omega.{arith}
use lib.Bits.{bit_or}
use lib.ListN.{length, drop, length-drop}
use lib.Seq.{take_all}
use Rattle.bits.specs.declared.BitSet.{BitSet}
use Rattle.bits.specs.Numerals.{numerals}
use Rattle.bits.proofs.NumeralLaws.{length_numerals, numerals_take, numerals_drop}
use Rattle.swaps.specs.Swaps.{read_by}
use Rattle.swaps.proofs.UnionLaws.{read_without}
use Rattle.swaps.proofs.read_by_others.Goals as goal

pub returns : goal.returns
returns c =
    let sets = c.args.sets.now in
    let target = c.args.target in
    let behind = take_all (length sets - (target + 1)) (drop (target + 1) sets) (omega (arith, length-drop (target + 1) sets)) in
    c.union.ensures
    ∙ ap₂ bit_or (c.read_by.ensures ∙ ap read_by (numerals_take target sets))
    (c.read_by-2.ensures ∙ ap (λ (l : List BitSet). read_by (numerals l)) behind ∙ ap read_by (numerals_drop (target + 1) sets))
    ∙ sym (read_without (numerals sets) target (omega (arith, length_numerals sets)))
