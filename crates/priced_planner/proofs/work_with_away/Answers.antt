-- `priced_planner::work_with_away` meets its contract: the lists are those of the definitions, and what is asked with them is workable. Assumes nothing.
use mathlib.Core.Path.{◌≡◌, refl, sym, ap₂, ◌∙◌, subst, fun_ext}
use mathlib.Core.Bool.{Bool}
use mathlib.Core.List.{List}
use Prim.Native.Nat.{ℕ}
use native.Mathlib.Omega.{arith}
use lib.ListN.{length}
use Rattle.bits.specs.Lists.{symbols_in}
use Rattle.codes.specs.Codes.{linear}
use Rattle.codes.proofs.LimitLaws.{layout_within}
use Rattle.plan_requests.specs.PlanRequests.{Asked, listed_on_set}
use Rattle.planning.specs.InnerWork.{Workable}
use Rattle.planning.proofs.ResultLaws.{listed_small, disks_below}
use Rattle.refusals.specs.Orders.{Gives}
use Rattle.priced_planner.specs.InnerPriced.{WorkedPriced}
use Rattle.priced_planner.specs.PricedPlanner.{asked_with_away, as_found}
use Rattle.priced_planner.proofs.AwayLaws.{workable_with_away}
use Rattle.priced_planner.proofs.work_with_away.Goals as goal

-- The entries made of a set's numbers are the numbers of a set with the same members
same_entries : {slice entries : List ℕ} {set same : ℕ → Bool} {n m : ℕ} → slice ≡ entries → entries ≡ symbols_in set 0 n → ((s : ℕ) → set s ≡ same s) → n ≡ m
    → slice ≡ symbols_in same 0 m
same_entries slice_is are members bound = slice_is ∙ are ∙ ap₂ (λ (set : ℕ → Bool) (k : ℕ). symbols_in set 0 k) (fun_ext members) bound

pub lost_disks-requires : goal.lost_disks-requires
lost_disks-requires c = (c.requires.within.disks_to, disks_below _ _ c.requires)

pub entries_of-lost-requires : goal.entries_of-lost-requires
entries_of-lost-requires c = omega (arith, c.requires.within.disks_to)

pub lost_symbols-gone-requires : goal.lost_symbols-gone-requires
lost_symbols-gone-requires c = (layout_within _ c.requires.within, disks_below _ _ c.requires)

pub loss_of-loss-requires : goal.loss_of-loss-requires
loss_of-loss-requires c = (
  layout_within _ c.requires.within,
  disks_below _ _ c.requires 0 c.requires.disks_good.count_from,
  c.lost_symbols-gone.ensures.lost,
  listed_small _ _ c.requires,
)

pub entries_of-list-requires : goal.entries_of-list-requires
entries_of-list-requires c = omega (arith, c.loss_of-loss.ensures.symbols, c.requires.within.symbols_to)

pub work_out_priced-requires : goal.work_out_priced-requires
work_out_priced-requires c =
    let args = c.args in
    let code = linear args.code.now in
    let loss = c.loss_of-loss.ensures in
    let made : listed_on_set c.as_slice.result.now c.as_slice-2.result.now ≡ asked_with_away code (listed_on_set args.disks.now args.wanted.now) args.states.now =
    ap₂ listed_on_set (same_entries c.as_slice.ensures.value c.entries_of-lost.ensures c.lost_disks.ensures refl)
    (same_entries c.as_slice-2.ensures.value c.entries_of-list.ensures loss.wanted loss.symbols) in
    subst (λ (given : Asked). Workable code given (length args.buffer.now)) (sym made) (workable_with_away code args.disks.now args.wanted.now args.states.now c.requires)

pub returns : goal.returns
returns c =
    let args = c.args in
    let code = linear args.code.now in
    let loss = c.loss_of-loss.ensures in
    let made : listed_on_set c.as_slice.result.now c.as_slice-2.result.now ≡ asked_with_away code (listed_on_set args.disks.now args.wanted.now) args.states.now =
    ap₂ listed_on_set (same_entries c.as_slice.ensures.value c.entries_of-lost.ensures c.lost_disks.ensures refl)
    (same_entries c.as_slice-2.ensures.value c.entries_of-list.ensures loss.wanted loss.symbols) in
    let worked = c.work_out_priced in
    subst (λ (given : Asked). WorkedPriced code given args.states.now args.buffer.now worked.new.buffer (Gives (as_found worked.result))) made worked.ensures
