-- `planning::array_of` meets its contract. Assumes nothing.
use mathlib.Core.Path.{◌≡◌, refl, sym, ap, ap₂, ◌∙◌}
use mathlib.Core.List.{List, [], ◌∷◌, ◌++◌}
use Prim.Native.Nat.{ℕ, ◌-◌}
use lib.ListN.{length, drop, replicate}
use Rattle.bits.specs.declared.BitSet.{BitSet}
use Rattle.bits.specs.Numerals.{set_width, numeral, numerals, padded}
use Rattle.bits.proofs.NumeralLaws.{length_numerals, numerals_drop}
use Rattle.std.proofs.lemmas.List.{drop-replicate}
use Rattle.planning.proofs.array_of.Goals as goal

numerals_join : (xs ys : List BitSet) → numerals (xs ++ ys) ≡ numerals xs ++ numerals ys
unfolding numerals
numerals_join [] ys = refl
numerals_join (x ∷ xs) ys = ap (λ (ns : List ℕ). numeral x ∷ ns) (numerals_join xs ys)

pub returns : goal.returns
unfolding padded
returns c =
    let sets = c.args.sets.now in
    numerals_join c.copy_from_slice.new.self _
    ∙ ap₂ (λ (a b : List ℕ). a ++ b) (ap numerals c.copy_from_slice.ensures.after)
    (numerals_drop (length sets) c.empty_sets-array.result
    ∙ ap (drop (length sets)) c.empty_sets-array.ensures
    ∙ drop-replicate (length sets) set_width 0
    ∙ ap (λ (n : ℕ). replicate (set_width - n) 0) (sym (length_numerals sets)))
