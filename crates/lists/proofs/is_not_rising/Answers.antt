-- `lists::is_not_rising` meets its contract. Assumes nothing.
use Rattle.std.proofs.Common.{ℕ, sym, ap₂, ◌∙◌, arith, eq-eqb}
use lib.Dec.{leb}
use Rattle.lists.proofs.ListLaws.{not_rising_first, not_rising_behind}
use Rattle.lists.proofs.is_not_rising.Goals as goal

pub returns-then-i-ne0 : goal.returns-then-i-ne0
returns-then-i-ne0 c =
    let args = c.args in
    ap₂ (λ (entry last : ℕ). leb entry last) c.byte_at.ensures.0 c.byte_at-then-i-ne0.ensures.0 ∙ sym (not_rising_behind args.list.now args.i (omega (arith, c.if-i-ne0.true)))

pub returns-else-i-ne0 : goal.returns-else-i-ne0
returns-else-i-ne0 c = rw c.if-i-ne0.false (sym (not_rising_first c.args.list.now))
