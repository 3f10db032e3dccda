-- `lists::first_bad` meets its contract. Assumes nothing.
use Rattle.std.proofs.Common.{length, sym, ◌∙◌, below_more, arith}
use Rattle.bits.specs.BitSets.{has}
use Rattle.bits.specs.Numerals.{numeral}
use Rattle.lists.proofs.ListLaws.{bad_found, bad_none}
use Rattle.lists.proofs.first_bad.Goals as goal

pub returns-then-is_bad : goal.returns-then-is_bad
returns-then-is_bad c =
    let args = c.args in
    let loop = c.loop-i in
    bad_found (has (numeral args.allowed)) args.list.now loop.i loop.invariant c.loop-i-test.true (sym c.is_bad.ensures ∙ c.if-is_bad.true)

pub loop-i-preserved : goal.loop-i-preserved
loop-i-preserved c = below_more _ _ c.loop-i.invariant (sym c.is_bad.ensures ∙ c.if-is_bad.false)

pub returns : goal.returns
returns c =
    let args = c.args in
    bad_none (has (numeral args.allowed)) args.list.now (length args.list.now) (λ j l. c.loop-i.invariant j (omega (arith, l, c.loop-i-test.false))) (omega arith) (omega arith)
