-- `bits::lowest_from` meets its contract: a set differs from its part below the bound in what it has from the bound on. Assumes nothing.
use mathlib.Core.Path.{ap, ◌∙◌}
use lib.Bits.{bit_and}
use Rattle.bits.specs.Numerals.{numeral, first_difference}
use Rattle.bits.proofs.DifferenceLaws.{lowest_from_bound}
use Rattle.bits.proofs.lowest_from.Goals as goal

pub returns : goal.returns
returns c =
    let args = c.args in
    c.first_difference.ensures.lowest
    ∙ ap (first_difference (numeral args.set))
    (c.common.ensures ∙ ap (bit_and (numeral args.set)) c.below.ensures)
    ∙ lowest_from_bound (numeral args.set) args.bound c.requires
