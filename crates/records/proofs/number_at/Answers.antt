-- `records::number_at` meets its contract, and its sums fit. Assumes nothing.
use native.Mathlib.Omega.{arith}
use Rattle.records.specs.Records.{number_at}
use Rattle.records.proofs.number_at.Goals as goal

pub returns : goal.returns
unfolding number_at
returns c = omega arith
