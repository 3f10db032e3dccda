-- `fewest_planner::fewest_test` meets its contract: planning's tests, then the number of survivors. Assumes nothing.
use mathlib.Core.Path.{◌≡◌, sym, ap, ◌∙◌}
use Prim.Native.Nat.{ℕ, ◌-◌, ◌^◌, ◌<◌}
use native.Mathlib.Omega.{arith}
use Rattle.std.specs.Prelude.{Ok}
use Rattle.std.proofs.lemmas.Result.{err_from_is_err_and}
use Rattle.bits.specs.BitSets.{has, count}
use Rattle.bits.specs.Numerals.{set_width, numeral}
use Rattle.codes.specs.Codes.{LinearCode}
use Rattle.codes.proofs.LimitLaws.{layout_within}
use Rattle.code_sheets.specs.CodeReading.{as_read}
use Rattle.losses.proofs.LossLaws.{lost_counted}
use Rattle.plan_requests.specs.PlanRequests.{Asked, asked_by}
use Rattle.plans.specs.Judgement.{lost, lost_count}
use Rattle.plans.proofs.JudgementLaws.{lost_at_most}
use Rattle.planning.specs.InnerWork.{Workable}
use Rattle.planning.proofs.CallLaws.{workable_if_fine}
use Rattle.planning.proofs.ResultLaws.{disks_below}
use Rattle.refusals.specs.Orders.{Outcome, Fine, outcome, or_if}
use Rattle.refusals.specs.Refusals.{◌at◌}
use lib.Dec.{ltb}
use Rattle.fewest_planner.proofs.CallLaws.{refused_early, decided_by_survivors, survivors_counted}
use Rattle.fewest_planner.proofs.fewest_test.Goals as goal

-- The set of the lost symbols has as many members as symbols are lost
lost_are_counted : {code : LinearCode} {asked : Asked} {room counted : ℕ} (gone : ℕ) → Workable code asked room → counted ≡ count gone → gone < 2 ^ set_width
    → ((s : ℕ) → has gone s ≡ lost code.layout asked.disks s) → counted ≡ lost_count code.layout asked.disks
lost_are_counted {code} {asked} gone workable counted small lost_are =
    counted ∙ lost_counted code.layout asked.disks (omega (arith, workable.within.symbols_to)) gone small lost_are

pub returns-in_err-plan_test : goal.returns-in_err-plan_test
returns-in_err-plan_test c =
    let a = c.args in
    let p = err_from_is_err_and c.from_residual.result c.from_residual.ensures.1 in
    rw (p.1, p.2) (refused_early a.code.now.layout (asked_by a.request) a.room Fine c.plan_test.ensures _ (ap outcome c.in_err-plan_test.was))

pub lost_symbols-gone-requires : goal.lost_symbols-gone-requires
lost_symbols-gone-requires c =
    let a = c.args in
    let code = a.code.now in
    let workable = (workable_if_fine (as_read (Ok code)) (asked_by a.request) a.room (λ fine. code.within) c.requires (sym c.plan_test.ensures ∙ ap outcome c.in_ok-plan_test.was)).1 in
    (layout_within _ workable.within, disks_below _ _ workable)

pub symbols-requires : goal.symbols-requires
symbols-requires c =
    let within = c.args.code.now.within in
    (omega (arith, within.disks_to), omega (arith, within.height_to))

pub overflow_sub-survivors : goal.overflow_sub-survivors
overflow_sub-survivors c =
    let a = c.args in
    let code = a.code.now in
    let gone = c.lost_symbols-gone in
    let fine = ap outcome c.in_ok-plan_test.was in
    let workable = (workable_if_fine (as_read (Ok code)) (asked_by a.request) a.room (λ fine. code.within) c.requires (sym c.plan_test.ensures ∙ fine)).1 in
    let counted = lost_are_counted (numeral gone.result) workable c.count.ensures gone.ensures.small gone.ensures.lost in
    omega (arith, counted, c.symbols.ensures, lost_at_most code.layout a.request.disks.now)

pub returns : goal.returns
returns c =
    let a = c.args in
    let code = a.code.now in
    let gone = c.lost_symbols-gone in
    let fine = ap outcome c.in_ok-plan_test.was in
    let workable = (workable_if_fine (as_read (Ok code)) (asked_by a.request) a.room (λ fine. code.within) c.requires (sym c.plan_test.ensures ∙ fine)).1 in
    let counted = lost_are_counted (numeral gone.result) workable c.count.ensures gone.ensures.small gone.ensures.lost in
    let survivors = c.symbols.result - c.count.result in
    decided_by_survivors code.layout (asked_by a.request) a.room Fine c.plan_test.ensures
    (survivors_counted code.layout a.request.disks.now counted (ap (λ (n : ℕ). n - c.count.result) c.symbols.ensures))
    (c.refuse_if.ensures ∙ ap (λ (v : Outcome). or_if v (ltb 16 survivors) (41 at survivors)) (sym fine))
