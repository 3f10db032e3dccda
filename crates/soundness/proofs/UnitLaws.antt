-- The list of equations is that of elimination from the units of the data symbols. It is the same with zeros behind them, as an array of all patterns would
-- have. Assumes nothing.
use mathlib.Core.Path.{◌≡◌, ap}
use mathlib.Core.List.{List}
use Prim.Native.Nat.{ℕ}
use lib.ListN.{length}
use Rattle.bits.specs.Numerals.{padded}
use Rattle.codes.specs.Codes.{LinearCode, matrix}
use Rattle.gf2.specs.InnerElimination.{nonempty, units}
use Rattle.gf2.specs.InnerSubsetPlans.{survivors}
use Rattle.gf2.proofs.IdentityRowLaws.{pivots_padded}
use Rattle.plans.specs.Judgement.{survives}
use Rattle.soundness.specs.Survivors.{survivor_equations}
use Rattle.spans.specs.InnerSpans.{equations_of, row_equations, unpivoted}

pub survivor_equations_padded : (code : LinearCode) (disks : List ℕ)
    → equations_of (padded (units code.data_symbols)) (survives code.layout disks) (matrix code) ≡ survivor_equations code disks
survivor_equations_padded code disks =
    ap (λ (found : List ℕ). nonempty (row_equations found surviving (length (matrix code)) (unpivoted found (survives code.layout disks))))
    (pivots_padded (units code.data_symbols) surviving)
  where
    surviving : List ℕ
    surviving = survivors (survives code.layout disks) (matrix code)
