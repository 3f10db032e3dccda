-- `soundness::test_by_equations` meets its contract: by the lowest column in which an equation fails. Assumes nothing.
use native.Mathlib.Omega.{arith}
use borrow.Author.Rules.{rules}
use Rattle.codes.specs.Codes.{linear}
use Rattle.soundness.proofs.CallLaws.{sound_if_none_fails, unsound_there}
use Rattle.soundness.proofs.test_by_equations.Goals as goal

pub returns-then-lowest-size : goal.returns-then-lowest-size
returns-then-lowest-size c =
    let args = c.args in
    unsound_there (linear args.code.now) args.code.now.within args.disks.now args.size args.stripe.now (λ i. search rules) c.requires.2
    c.equations_for-equations.ensures.equations c.symbols.ensures (rw c.as_slice.ensures.value at c.lowest_failing-lowest.ensures) c.if-lowest-size.true

pub returns : goal.returns
returns c =
    let args = c.args in
    sound_if_none_fails (linear args.code.now) args.code.now.within args.disks.now args.size args.stripe.now (λ i. search rules) c.requires.2
    c.equations_for-equations.ensures.equations c.symbols.ensures (rw c.as_slice.ensures.value at c.lowest_failing-lowest.ensures) (omega (arith, c.if-lowest-size.false))
