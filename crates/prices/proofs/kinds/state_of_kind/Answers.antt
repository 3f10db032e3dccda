-- `prices::kinds::state_of_kind` meets its contract: each kind by the arm that it is in. Assumes nothing.
use Rattle.std.proofs.Common.{ne_eqb, arith}
use Rattle.prices.specs.Kinds.{state_of_kind}
use Rattle.prices.proofs.KindLaws.{no_number_is}
use Rattle.prices.proofs.kinds.state_of_kind.Goals as goal

pub returns-in-0 : goal.returns-in-0
unfolding state_of_kind
returns-in-0 c = simp (c.in-0.is)

pub returns-in-1 : goal.returns-in-1
unfolding state_of_kind
returns-in-1 c = simp (c.in-1.is)

pub returns-in-2 : goal.returns-in-2
unfolding state_of_kind
returns-in-2 c = simp (c.in-2.is)

pub returns-in_default : goal.returns-in_default
unfolding state_of_kind
returns-in_default c =
    let kind = c.args.kind in
    simp (no_number_is, ne_eqb kind 0 (λ e. omega arith), ne_eqb kind 1 (λ e. omega arith), ne_eqb kind 2 (λ e. omega arith))
