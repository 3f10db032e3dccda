-- `one_disk::rebuild_disk` meets its contract: a number that no byte holds is none of any array's. Assumes nothing.
use mathlib.Core.Path.{ap, ◌∙◌, subst}
use mathlib.Core.List.{[], ◌∷◌}
use Prim.Native.Nat.{ℕ}
use native.Mathlib.Omega.{arith}
use lib.ListN.{length}
use Rattle.code_sheets.specs.CodeReading.{reading}
use Rattle.code_sheets.proofs.ReadingLaws.{code_within_limits}
use Rattle.rebuild.specs.Rebuild.{rebuild_verdict, stripe_after, Restored}
use Rattle.one_disk.proofs.ByteLaws.{rebuild_by_byte}
use Rattle.one_disk.proofs.rebuild_disk.Goals as goal

pub returns : goal.returns
returns c =
    let args = c.args in
    let told = c.rebuild in
    let byte = c.disk_byte.ensures in
    let limits = code_within_limits args.sheet.now (λ i. omega (arith, c.type_inv.sheet i)) in
    let all = rebuild_by_byte args.sheet.now args.disk args.plan.now limits args.size args.stripe.now
    (told.ensures.answer ∙ ap (λ (d : ℕ). rebuild_verdict args.sheet.now (d ∷ []) args.plan.now args.size (length args.stripe.now)) byte)
    (told.ensures.stripe ∙ ap (λ (d : ℕ). stripe_after args.sheet.now (d ∷ []) args.plan.now args.size args.stripe.now) byte)
    (λ fine. subst (λ (d : ℕ). Restored (reading args.sheet.now).code (d ∷ []) args.plan.now args.size args.stripe.now told.new.stripe) byte (told.ensures.restored fine)) in record { answer = all.0; stripe = all.1.0; restored = all.1.1 }
