-- `codes::is_length` meets its contract: a division decides what a product would. Assumes nothing.
use mathlib.Core.Path.{◌∙◌}
use native.Mathlib.Omega.{arith}
use borrow.Author.Tests.{ne_eqb}
use Rattle.codes.proofs.LengthLaws.{length_of_empty_symbols, length_by_quotient, length_not_with_remainder}
use Rattle.codes.proofs.is_length.Goals as goal

pub returns-then-size-eq0 : goal.returns-then-size-eq0
returns-then-size-eq0 c = length_of_empty_symbols c.args.bytes c.args.count c.args.size c.if-size-eq0.true

pub returns-then-bytes-size-eq0 : goal.returns-then-bytes-size-eq0
returns-then-bytes-size-eq0 c =
    let args = c.args in
    length_by_quotient args.bytes args.count args.size (omega arith) c.if-bytes-size-eq0.true

pub returns-else-bytes-size-eq0 : goal.returns-else-bytes-size-eq0
returns-else-bytes-size-eq0 c =
    let args = c.args in
    ne_eqb _ _ c.if-bytes-size-eq0.false ∙ length_not_with_remainder args.bytes args.count args.size (omega arith) c.if-bytes-size-eq0.false
