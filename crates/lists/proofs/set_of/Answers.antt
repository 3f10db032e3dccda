-- `lists::set_of` meets its contract. Assumes nothing.
use Rattle.std.proofs.Common.{ℕ, refl, ap, ◌∙◌, arith}
use Rattle.bits.specs.BitSets.{with}
use Rattle.bits.specs.Numerals.{numeral}
use Rattle.lists.proofs.ListLaws.{listed_none, listed_joins, listed_all}
use Rattle.lists.proofs.set_of.Goals as goal

pub loop-entry-init : goal.loop-entry-init
loop-entry-init c = λ s. rw c.empty-set.ensures (listed_none c.args.list.now s)

pub loop-entry-preserved : goal.loop-entry-preserved
loop-entry-preserved c =
    let loop = c.loop-entry in
    listed_joins c.args.list.now loop.entry-index c.loop-entry-test.true (numeral loop.set) loop.invariant refl (c.with-set.ensures ∙ ap (λ (entry : ℕ). with (numeral loop.set) entry) c.from.ensures)

pub returns : goal.returns
returns c =
    let loop = c.loop-entry in
    listed_all c.args.list.now loop.entry-index (omega (arith, c.loop-entry-test.false)) (numeral loop.set) loop.invariant
