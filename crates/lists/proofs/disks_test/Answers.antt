-- `lists::disks_test` meets its contract: one more test before those of a list. Assumes nothing.
use Rattle.std.proofs.Common.{◌≡◌, ℕ, Bool, sym, ap, ◌∙◌, ltb}
use mathlib.Core.Path.{fun_ext}
use Rattle.bits.specs.BitSets.{has}
use Rattle.bits.proofs.SetLaws.{has_below}
use Rattle.lists.specs.Lists.{any_from, list_faults, disk_faults, outcome_at}
use Rattle.refusals.specs.Orders.{Outcome, Fault, Fine, or_if, and_then, first_of}
use Rattle.refusals.specs.Refusals.{◌at◌}
use Rattle.lists.proofs.disks_test.Goals as goal
use Rattle.lists.proofs.disks_test.Goals.{After-list_test}

-- The outcome is that of the list's test, since every disk is known
told : (c : After-list_test) → outcome_at (λ position. 24 at position) c.list_test.result ≡ first_of (disk_faults c.args.disks c.args.most c.args.list.now)
told c =
    let disks = c.args.disks in
    let most = c.args.most in
    let list = c.args.list.now in
    let faults : (ℕ → Bool) → _ = λ allowed. list_faults 1 most allowed list (λ position. 24 at position) in
    let known : Fine ≡ or_if Fine (any_from disks list) (7 at 0) =
    c.in_ok-refuse_if.ensures ∙ ap (λ (unknown : Bool). or_if Fine unknown (7 at 0)) c.any_from.ensures in
    c.list_test.ensures (λ position. 24 at position)
    ∙ ap (λ (allowed : ℕ → Bool). first_of (faults allowed)) (ap has c.below.ensures ∙ fun_ext (has_below disks))
    ∙ ap (λ (verdict : Outcome). and_then verdict (faults (λ disk. ltb disk disks))) known

pub returns-in-Ok : goal.returns-in-Ok
returns-in-Ok c = ap (outcome_at (λ position. 24 at position)) (sym c.in-Ok.is) ∙ told (goal.at.returns-in-Ok c).After-list_test

pub returns-in-Err : goal.returns-in-Err
returns-in-Err c = ap (outcome_at (λ position. 24 at position)) (sym c.in-Err.is) ∙ told (goal.at.returns-in-Err c).After-list_test
