-- `Layout::first_symbol` meets its contract. Assumes nothing.
use mathlib.Core.Path.{refl}
use native.Mathlib.Nat.{mul-le-mul_right}
use native.Mathlib.Omega.{arith}
use Rattle.codes.specs.Layouts.{first_symbol}
use Rattle.codes.proofs.Layout.first_symbol.Goals as goal

pub overflow_mul-result : goal.overflow_mul-result
overflow_mul-result c = omega (arith, mul-le-mul_right {m = c.args.disk} {n = 255} c.args.self.height (omega arith))

pub returns : goal.returns
unfolding first_symbol
returns c = refl
