-- `elimination::first_nonempty` meets its contract. Assumes nothing.
use mathlib.Core.Path.{sym, ap, ◌∙◌}
use mathlib.Core.Bool.{Bool, cond}
use Rattle.bits.specs.Numerals.{numeral}
use Rattle.elimination.proofs.first_nonempty.Goals as goal

pub returns-then-is_empty : goal.returns-then-is_empty
returns-then-is_empty c =
    let args = c.args in
    sym (ap (λ (empty : Bool). cond empty (numeral args.second) (numeral args.first)) (sym c.is_empty.ensures ∙ c.if-is_empty.true))

pub returns : goal.returns
returns c =
    let args = c.args in
    sym (ap (λ (empty : Bool). cond empty (numeral args.second) (numeral args.first)) (sym c.is_empty.ensures ∙ c.if-is_empty.false))
