-- `one_disk::check_disk` meets its contract: a number that no byte holds is none of any array's. Assumes nothing.
use mathlib.Core.Path.{ap, ◌∙◌}
use mathlib.Core.List.{[], ◌∷◌}
use Prim.Native.Nat.{ℕ}
use native.Mathlib.Omega.{arith}
use Rattle.code_sheets.proofs.ReadingLaws.{code_within_limits}
use Rattle.plans.specs.Check.{checked}
use Rattle.one_disk.proofs.ByteLaws.{check_by_byte}
use Rattle.one_disk.proofs.check_disk.Goals as goal

pub returns : goal.returns
returns c =
    let args = c.args in
    let limits = code_within_limits args.sheet.now (λ i. omega (arith, c.type_inv.sheet i)) in
    let all = check_by_byte args.sheet.now args.disk args.plan.now limits
    (c.check.ensures.answer ∙ ap (λ (d : ℕ). checked args.sheet.now (d ∷ []) args.plan.now) c.disk_byte.ensures) in record { answer = all.0; demand2 = all.1 }
