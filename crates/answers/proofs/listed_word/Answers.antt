-- `answers::listed_word` meets its contract. Assumes nothing.
use Rattle.std.proofs.Common.{ℕ, ◌%◌, ◌^◌, List, length, get_or, sym, ap, ◌∙◌, arith}
use Rattle.bits.specs.Numerals.{numeral, numerals, empty_set}
use Rattle.bits.specs.declared.BitSet.{BitSet}
use Rattle.bits.proofs.NumeralLaws.{length_numerals, get_or_numerals}
use Rattle.answers.proofs.EntryLaws.{zero_behind}
use Rattle.answers.proofs.listed_word.Goals as goal

pub returns-in-Some : goal.returns-in-Some
returns-in-Some c =
    let items = c.args.sets.now.items in
    let found = c.in-Some.ensures.lookup.3.1 empty_set ∙ ap (λ (list : List BitSet). get_or list c.args.index empty_set) c.as_slice.ensures.value in
    c.low_word.ensures ∙ ap (λ (word : ℕ). word % 2 ^ 64) (ap numeral found ∙ get_or_numerals items c.args.index)

pub returns-in-None : goal.returns-in-None
returns-in-None c =
    let items = c.args.sets.now.items in
    let same = ap (λ (list : List BitSet). length list) c.as_slice.ensures.value in
    ap (λ (word : ℕ). word % 2 ^ 64) (sym (zero_behind (numerals items) c.args.index (omega (arith, c.in-None.ensures.lookup.3, same, length_numerals items))))
