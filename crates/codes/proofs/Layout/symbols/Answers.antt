-- `Layout::symbols` meets its contract. Assumes nothing.
use mathlib.Core.Path.{refl}
use native.Mathlib.Nat.{mul-le-mul_right}
use native.Mathlib.Omega.{arith}
use Rattle.codes.specs.Layouts.{symbols_of}
use Rattle.codes.proofs.Layout.symbols.Goals as goal

pub overflow_mul-result : goal.overflow_mul-result
overflow_mul-result c = omega (arith, mul-le-mul_right {m = c.args.self.disks} {n = 255} c.args.self.height (omega arith))

pub returns : goal.returns
unfolding symbols_of
returns c = refl
