-- `losses::origin_of` meets its contract: the edition decides. Assumes nothing.
use mathlib.Core.Path.{ap, ◌∙◌}
use native.Mathlib.Omega.{arith}
use borrow.Author.Tests.{eq-eqb, ne_eqb}
use Rattle.codes.specs.Layouts.{first_symbol}
use Rattle.losses.proofs.origin_of.Goals as goal

pub returns-then-edition-eq3 : goal.returns-then-edition-eq3
returns-then-edition-eq3 c = simp (eq-eqb _ 3 c.if-edition-eq3.true)

pub first_symbol-requires : goal.first_symbol-requires
first_symbol-requires c =
    (omega (arith, c.requires.1, c.byte_at.ensures.0), omega (arith, c.requires.0.disks_to), omega (arith, c.requires.0.height_to))

pub returns : goal.returns
returns c =
    let args = c.args in
    rw (ne_eqb args.edition 3 c.if-edition-eq3.false) (c.first_symbol.ensures ∙ ap (first_symbol args.layout) c.byte_at.ensures.0)
