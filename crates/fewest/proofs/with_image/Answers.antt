-- `fewest::with_image` meets its contract: an image that shares nothing with the used symbols needs a symbol of its own. Assumes nothing.
use mathlib.Core.Path.{sym, ap, ◌∙◌, subst}
use Prim.Native.Nat.{ℕ, ◌+◌}
use lib.Bits.{bit_and, bit_or}
use lib.Dec.{eqb}
use borrow.Author.Tests.{eqb-true, eqb-false}
use Rattle.bits.specs.Numerals.{numeral}
use Rattle.fewest.specs.InnerFewest.{Needed}
use Rattle.fewest.proofs.BoundLaws.{needed_more}
use Rattle.fewest.proofs.with_image.Goals as goal

pub returns-then-is_empty : goal.returns-then-is_empty
returns-then-is_empty c = λ taken other meets needed. needed

pub returns-then-few-count : goal.returns-then-few-count
returns-then-few-count c = λ taken other meets needed. needed

pub returns-then-not-is_empty : goal.returns-then-not-is_empty
returns-then-not-is_empty c = λ taken other meets needed. needed

pub returns-then-found-ge-SET_WIDTH : goal.returns-then-found-ge-SET_WIDTH
returns-then-found-ge-SET_WIDTH c = λ taken other meets needed. needed

pub returns : goal.returns
returns c =
    let args = c.args in
    let shared = c.common-shared.ensures in
    λ taken other meets needed.
    subst (λ (x : ℕ). Needed taken other x (args.earlier.found + 1)) (sym (c.union.ensures ∙ ap (bit_or (numeral args.earlier.used)) shared))
    (needed_more meets needed
    (eqb-false _ 0 (ap (λ (x : ℕ). eqb x 0) (sym c.common.ensures) ∙ sym c.is_empty.ensures ∙ c.if-is_empty.false))
    (eqb-true _ 0 (ap (λ (x : ℕ). eqb x 0) (sym (c.common-2.ensures ∙ ap (λ (x : ℕ). bit_and x (numeral args.earlier.used)) shared)) ∙ sym c.is_empty-2.ensures ∙ c.if-not-is_empty.false)))
