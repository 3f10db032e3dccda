-- `bits::below` meets its contract: the shifted one is not cut off, and the whole width is the case beside. Assumes nothing.
use Prim.Native.Nat.{ℕ, ◌-◌, ◌≤◌}
use mathlib.Core.Path.{ap, sym, subst}
use native.Mathlib.Omega.{arith}
use lib.Pow.{pow_pos}
use Rattle.bits.specs.BitSets.{below}
use Rattle.bits.specs.Numerals.{numeral}
use Rattle.bits.proofs.SetLaws.{shifted_one}
use Rattle.bits.proofs.below.Goals as goal

pub returns-then-bound-eq-SET_WIDTH : goal.returns-then-bound-eq-SET_WIDTH
unfolding numeral below
returns-then-bound-eq-SET_WIDTH c = sym (ap below c.if-bound-eq-SET_WIDTH.true)

pub overflow_sub-result : goal.overflow_sub-result
overflow_sub-result c = subst (λ (n : ℕ). 1 ≤ n) (sym (shifted_one 64 c.args.bound (omega (arith, c.requires)))) (pow_pos c.args.bound)

pub returns : goal.returns
unfolding numeral below
returns c = ap (λ (n : ℕ). n - 1) (shifted_one 64 c.args.bound (omega (arith, c.requires)))
