-- What an accepted plan reads is enough for what it wants; so a plan from a smallest set that is enough reads the fewest symbols. Assumes nothing.
use mathlib.Core.Path.{◌≡◌, refl, sym, ap, ◌∙◌, subst, fun_ext}
use mathlib.Core.Bool.{Bool, true, false, ◌&&◌, ◌||◌, true≢false}
use mathlib.Core.List.{List, [], ◌∷◌}
use Prim.Native.Nat.{ℕ, ◌+◌, ◌-◌, ◌^◌, ◌≤◌}
use native.Mathlib.Omega.{arith}
use lib.Dec.{eqb}
use lib.ListN.{get_or}
use borrow.Author.Tests.{eq-eqb}
use Rattle.bits.specs.BitSets.{has}
use Rattle.bits.specs.Lists.{count_from}
use Rattle.bits.specs.Numerals.{set_width}
use Rattle.bits.proofs.Booleans.{bool_cases, and_left, and_right, and_true_if_both, or_true_if_left, or_true_if_right}
use Rattle.bits.proofs.CountLaws.{count_from_enough}
use Rattle.codes.specs.Codes.{LinearCode, symbols, matrix}
use Rattle.fewest.specs.InnerFewest.{Enough, size, Fewest}
use Rattle.gf2.specs.Plans.{target, reads, read_by_any, Within, extend, ready, filled_after, UsesOnlyKnown, done, next, Accepted}
use Rattle.gf2.specs.declared.Step.{Step}
use Rattle.gf2.specs.declared.Step.TheVariants.{Clear, Copy, Add}
use Rattle.gf2.proofs.PlanLaws.{pattern_even_on_wanted}
use Rattle.plan_sheets.specs.PlanSheets.{Plan, steps_of}
use Rattle.plans.specs.Judgement.{survives, true_read_count}
use Rattle.plans.proofs.JudgementLaws.{survives_below, lost_means_not_surviving, accepted_if_fine}
use Rattle.plan_requests.specs.PlanRequests.{Asked, asked_symbols}
use Rattle.planning.specs.Planning.{Found, APlan, APatterns}
use Rattle.planning.specs.Demand3.{WouldBeAccepted}
use Rattle.planning.specs.InnerWork.{Workable, PatternShown, WorkedFrom, Worked}
use Rattle.planning.proofs.ResultLaws.{all_known, worked_from_all}
use Rattle.planning.proofs.WorkLaws.{asked_is_lost, few_read}
use Rattle.refusals.specs.Orders.{Answer, Gives, Refuses}
use Rattle.fewest_planner.specs.FewestReads.{survivor_count, NoneReadsFewer, FewestReads}

-- ------------------------------------------------------------------
-- What the steps read is all that they need

-- What was known and is read or may be written is kept
abbrev Keeps : (ℕ → Bool) → List Step → (ℕ → Bool) → (ℕ → Bool) → Type 0
Keeps writable steps known kept = (s : ℕ) → known s ≡ true → (read_by_any s steps || writable s) ≡ true → kept s ≡ true

keeps_later : (writable : ℕ → Bool) (p : Step) (steps : List Step) (known kept : ℕ → Bool) → Keeps writable (p ∷ steps) known kept
    → Keeps writable steps (extend known (target p)) (extend kept (target p))
unfolding read_by_any
keeps_later writable p steps known kept keeps s is_known used = by_place (eqb s (target p)) is_known
  where
    more_used : (a b c : Bool) → (b || c) ≡ true → ((a || b) || c) ≡ true
    more_used true b c h = refl
    more_used false b c h = h

    by_place : (here : Bool) → (here || known s) ≡ true → (here || kept s) ≡ true
    by_place true h = refl
    by_place false h = keeps s h (more_used (reads s p) (read_by_any s steps) (writable s) used)

-- A step that is ready is so with what is kept
ready_kept : (writable : ℕ → Bool) (p : Step) (steps : List Step) (known kept : ℕ → Bool) → writable (target p) ≡ true → Keeps writable (p ∷ steps) known kept
    → ready p known ≡ true → ready p kept ≡ true
unfolding read_by_any
ready_kept writable (Clear t) steps known kept may_write keeps h = refl
ready_kept writable (Copy t s) steps known kept may_write keeps h =
    keeps s h (or_true_if_left ((eqb s s) || read_by_any s steps) (writable s) (or_true_if_left (eqb s s) (read_by_any s steps) (eq-eqb s s refl)))
ready_kept writable (Add t s) steps known kept may_write keeps h =
    and_true_if_both (kept t) (kept s)
    (keeps t (and_left (known t) (known s) h) (or_true_if_right ((eqb s t) || read_by_any t steps) (writable t) may_write))
    (keeps s (and_right (known t) (known s) h) (or_true_if_left ((eqb s s) || read_by_any s steps) (writable s) (or_true_if_left (eqb s s) (read_by_any s steps) (eq-eqb s s refl))))

uses_kept : {writable known : ℕ → Bool} {steps : List Step} → UsesOnlyKnown writable known steps → (kept : ℕ → Bool) → Keeps writable steps known kept → UsesOnlyKnown writable kept steps
uses_kept done kept keeps = done
uses_kept {writable} (next {known = known} {p = p} {ps = steps} may_write is_ready rest) kept keeps =
    next may_write (ready_kept writable p steps known kept may_write keeps is_ready)
    (uses_kept rest (extend kept (target p)) (keeps_later writable p steps known kept keeps))

-- A place that may be written is filled with what is kept
filled_kept : (writable : ℕ → Bool) (steps : List Step) (known kept : ℕ → Bool) → Keeps writable steps known kept → (t : ℕ) → writable t ≡ true
    → filled_after known steps t ≡ true → filled_after kept steps t ≡ true
unfolding filled_after
filled_kept writable [] known kept keeps t may_write filled = keeps t filled (or_true_if_right (read_by_any t []) (writable t) may_write)
filled_kept writable (p ∷ steps) known kept keeps t may_write filled =
    filled_kept writable steps (extend known (target p)) (extend kept (target p)) (keeps_later writable p steps known kept keeps) t may_write filled

-- What an accepted plan reads of the known places is enough for the wanted ones, where none of these is known
pub reads_enough : (rows : List ℕ) (known wanted : ℕ → Bool) (steps : List Step) → ((t : ℕ) → wanted t ≡ true → known t ≡ false)
    → Accepted rows wanted known wanted steps → Enough rows wanted (λ s. known s && read_by_any s steps)
reads_enough rows known wanted steps lost accepted pattern even t is_wanted = pattern_even_on_wanted by_reads pattern even t is_wanted
  where
    read : ℕ → Bool
    read s = known s && read_by_any s steps

    keeps : Keeps wanted steps known read
    keeps s is_known used = by_use (wanted s) refl used
      where
        by_use : (c : Bool) → wanted s ≡ c → (read_by_any s steps || c) ≡ true → (known s && read_by_any s steps) ≡ true
        by_use true e h = absurd (true≢false (sym is_known ∙ lost s e))
        by_use false e h = and_true_if_both (known s) (read_by_any s steps) is_known (bool_cases (λ c. (c || false) ≡ true → c ≡ true) (λ q. refl) (λ q. q) (read_by_any s steps) h)

    by_reads : Accepted rows wanted read wanted steps
    by_reads =
        record {
          uses_only_known = uses_kept accepted.uses_only_known read keeps;
          filled = λ u u_wanted. filled_kept wanted steps known read keeps u u_wanted (accepted.filled u u_wanted);
          right = accepted.right;
        }

-- The survivors that a plan reads
abbrev read_of : LinearCode → Asked → Plan → ℕ → Bool
read_of code asked plan s = survives code.layout asked.disks s && read_by_any s (steps_of plan)

-- So what a plan reads that would be accepted is enough for what was asked
pub accepted_reads_enough : (code : LinearCode) (asked : Asked) {room : ℕ} → Workable code asked room → (plan : Plan) → WouldBeAccepted code asked plan
    → Enough (matrix code) (asked_symbols code asked) (read_of code asked plan)
accepted_reads_enough code asked workable plan accepted =
    reads_enough (matrix code) (survives code.layout asked.disks) (asked_symbols code asked) (steps_of plan)
    (λ t is_wanted. lost_means_not_surviving code.layout asked.disks t (asked_is_lost code asked workable t is_wanted))
    (subst (λ (wanted : ℕ → Bool). Accepted (matrix code) wanted (survives code.layout asked.disks) wanted (steps_of plan)) (fun_ext accepted.wants_exactly)
    (accepted_if_fine code workable.within asked.disks plan accepted.rules_kept))

-- ------------------------------------------------------------------
-- The answer

module _ (code : LinearCode) (asked : Asked) {room : ℕ} (workable : Workable code asked room) (branchings : ℕ) (chosen : ℕ → Bool)
    (fewest : Fewest (matrix code) (survives code.layout asked.disks) (asked_symbols code asked) branchings chosen) where
  -- Within the array all are counted
  counted : (set : ℕ → Bool) → Within set (survives code.layout asked.disks) → size set ≡ count_from set 0 (symbols code)
  counted set within =
      let more : symbols code + (set_width - symbols code) ≡ set_width = omega (arith, workable.within.symbols_to) in
      sym (ap (count_from set 0) more)
      ∙ count_from_enough set (symbols code) (set_width - symbols code)
      (λ i h. bool_cases (λ c. set i ≡ c → c ≡ false) (λ inside. absurd (omega (arith, survives_below code.layout asked.disks i (within i inside)))) (λ e. refl) (set i) refl)

  -- An accepted plan reads as many as are chosen, or more
  none_below_chosen : 2 ^ survivor_count code.layout asked.disks ≤ branchings → NoneReadsFewer code asked (count_from chosen 0 (symbols code))
  none_below_chosen many plan accepted =
      let within : Within (read_of code asked plan) (survives code.layout asked.disks) =
      λ s h. and_left (survives code.layout asked.disks s) (read_by_any s (steps_of plan)) h in
      omega (
        arith,
        fewest.least (subst (λ (n : ℕ). 2 ^ n ≤ branchings) (sym (counted (survives code.layout asked.disks) (λ s h. h))) many) (read_of code asked plan) within
            (accepted_reads_enough code asked workable plan accepted),
        counted chosen fewest.within,
        counted (read_of code asked plan) within,
      )

  -- A pattern that shows on a wanted symbol and on none that is chosen shows that the survivors are not enough: all of them were chosen
  all_chosen : (pattern : ℕ) → PatternShown code asked chosen pattern → (s : ℕ) → chosen s ≡ survives code.layout asked.disks s
  all_chosen pattern shown =
      fewest.otherwise
      (λ all. omega (arith, fewest.enough all pattern shown.even_on_known shown.shown_at shown.shown_wanted, shown.odd_there))

  pub worked_fewest : (before after : List ℕ) (answer : Answer Found) → WorkedFrom code asked chosen before after answer
      → Worked code asked before after answer × (2 ^ survivor_count code.layout asked.disks ≤ branchings → FewestReads code asked answer)
  worked_fewest before after (Gives (APlan sheet_bytes reads)) worked =
      let few : reads ≤ count_from chosen 0 (symbols code) =
      omega (
        arith,
        worked.0.right.true_count ∙ ap (true_read_count (symbols code) (survives code.layout asked.disks)) worked.1,
        few_read code asked workable chosen fewest.within,
      ) in
      (worked.0, (λ many plan accepted. omega (arith, few, none_below_chosen many plan accepted)))
  worked_fewest before after (Gives (APatterns patterns)) worked =
      let from_all =
      all_known code asked workable (all_chosen (get_or patterns 0 0) worked.0.shown) before after (Gives (APatterns patterns)) worked in
      (worked_from_all code asked workable before after (Gives (APatterns patterns)) from_all, λ many. tt)
  worked_fewest before after (Refuses refusal) worked = absurd worked

-- What was chosen from sets that hold the survivors and the wanted symbols of the array
pub fewest_for : (code : LinearCode) (asked : Asked) (rows : List ℕ) (known wanted branchings : ℕ) {chosen : ℕ → Bool} → rows ≡ matrix code
    → ((s : ℕ) → has known s ≡ survives code.layout asked.disks s) → ((s : ℕ) → has wanted s ≡ asked_symbols code asked s)
    → Fewest rows (has known) (has wanted) branchings chosen → Fewest (matrix code) (survives code.layout asked.disks) (asked_symbols code asked) branchings chosen
fewest_for code asked rows known wanted branchings {chosen} rows_are known_are wanted_are fewest =
    subst (λ (m : List ℕ). Fewest m (survives code.layout asked.disks) (asked_symbols code asked) branchings chosen) rows_are
    (subst (λ (set : ℕ → Bool). Fewest rows set (asked_symbols code asked) branchings chosen) (fun_ext known_are)
    (subst (λ (set : ℕ → Bool). Fewest rows (has known) set branchings chosen) (fun_ext wanted_are) fewest))
