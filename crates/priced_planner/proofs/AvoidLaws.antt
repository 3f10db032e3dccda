-- A plan for what was asked that avoids the away disks is one with these lost too, and the other way round: its steps are the same. Assumes nothing.
use mathlib.Core.Path.{◌≡◌, refl, sym, ap, ap₂, ◌∙◌, subst, fun_ext}
use mathlib.Core.Bool.{Bool, true, false, not, ◌&&◌, ◌||◌, and-false, true≢false}
use mathlib.Core.List.{List, [], ◌∷◌}
use mathlib.Core.Logic.{◌⊎◌, inl, inr}
use Prim.Native.Nat.{ℕ, ◌<◌}
use borrow.Author.Tests.{ltb-true, lt-ltb, eqb-true, eq-eqb, not-true}
use lib.Dec.{eqb, ltb}
use Rattle.bits.proofs.Booleans.{and_left, and_right, and_true_if_both, or_true_if_left, or_true_if_right}
use Rattle.codes.specs.Codes.{LinearCode, symbols, matrix}
use Rattle.codes.specs.Layouts.{symbols_of, disk_of}
use Rattle.codes.specs.declared.Layout.{Layout}
use Rattle.codes.proofs.LayoutLaws.{disk_of_below}
use Rattle.gf2.specs.Plans.{target, reads, read_by_any, extend, ready, filled_after, UsesOnlyKnown, done, next, Accepted}
use Rattle.gf2.specs.declared.Step.{Step}
use Rattle.gf2.specs.declared.Step.TheVariants.{Clear, Copy, Add}
use Rattle.lists.specs.Lists.{listed}
use Rattle.plan_requests.specs.PlanRequests.{Asked, listed_on_set, asked_symbols}
use Rattle.plan_sheets.specs.InnerPlanSheets.{head_for}
use Rattle.plan_sheets.specs.PlanSheets.{Plan, steps_of}
use Rattle.planning.specs.Demand3.{WouldBeAccepted, SomePlanAccepted}
use Rattle.planning.specs.InnerWork.{Workable}
use Rattle.planning.proofs.WorkLaws.{asked_is_lost}
use Rattle.plans.specs.Judgement.{survives, wanted_of, true_read_count}
use Rattle.plans.proofs.JudgementLaws.{accepted_if_fine, deserves_if_fine, deserves_if_rules_kept, fine_if_deserves, lost_means_not_surviving}
use Rattle.plans.proofs.WrittenLaws.{head_fits_written}
use Rattle.prices.specs.Prices.{state_of, is_away}
use Rattle.prices.specs.declared.DiskState.{DiskState}
use Rattle.priced_planner.specs.PricedPlanner.{is_lost, lost_disks, asked_with_away, AvoidsAway}
use Rattle.priced_planner.proofs.AwayLaws.{workable_with_away, wants_as_asked, asked_stays_lost}
use Rattle.priced_planner.proofs.SymbolListLaws.{listed_symbols_in}

-- ------------------------------------------------------------------
-- Steps with other known places

-- A place with one more known place: it was known, or it is that one
extended : (known other : ℕ → Bool) (t s : ℕ) → (known s ≡ true → other s ≡ true) → extend known t s ≡ true → extend other t s ≡ true
extended known other t s keeps = by_place (eqb s t)
  where
    by_place : (here : Bool) → (here || known s) ≡ true → (here || other s) ≡ true
    by_place true h = refl
    by_place false h = keeps h

-- Steps use only what is known of other places, where what they read and what they may write stays known
uses_only_others : {writable known : ℕ → Bool} {steps : List Step} → UsesOnlyKnown writable known steps → (other : ℕ → Bool)
    → ((s : ℕ) → known s ≡ true → read_by_any s steps ≡ true → other s ≡ true) → ((s : ℕ) → known s ≡ true → writable s ≡ true → other s ≡ true)
    → UsesOnlyKnown writable other steps
unfolding read_by_any
uses_only_others done other reads_stay writes_stay = done
uses_only_others {writable} {known} (next {p = p} {ps = ps} may_write is_ready later) other reads_stay writes_stay =
    next may_write (by_step p may_write is_ready (λ s h. reads_stay s h))
    (uses_only_others later (extend other (target p))
    (λ s h read. extended known other (target p) s (λ is_known. reads_stay s is_known (or_true_if_right (reads s p) (read_by_any s ps) read)) h)
    (λ s h writes. extended known other (target p) s (λ is_known. writes_stay s is_known writes) h))
  where
    itself : (s : ℕ) → eqb s s ≡ true
    itself s = eq-eqb s s refl

    by_step : (q : Step) → writable (target q) ≡ true → ready q known ≡ true → ((s : ℕ) → known s ≡ true → (reads s q || read_by_any s ps) ≡ true → other s ≡ true)
        → ready q other ≡ true
    by_step (Clear t) writes h stays = refl
    by_step (Copy t s) writes h stays = stays s h (or_true_if_left (eqb s s) (read_by_any s ps) (itself s))
    by_step (Add t s) writes h stays =
        and_true_if_both (other t) (other s) (writes_stay t (and_left (known t) (known s) h) writes)
        (stays s (and_right (known t) (known s) h) (or_true_if_left (eqb s s) (read_by_any s ps) (itself s)))

-- What they fill stays filled
filled_others : (steps : List Step) (known other : ℕ → Bool) (t : ℕ) → (known t ≡ true → other t ≡ true) → filled_after known steps t ≡ true → filled_after other steps t ≡ true
unfolding filled_after
filled_others [] known other t keeps filled = keeps filled
filled_others (p ∷ ps) known other t keeps filled =
    filled_others ps (extend known (target p)) (extend other (target p)) t (extended known other (target p) t keeps) filled

-- So they stay accepted
accepted_others : {rows : List ℕ} {wanted known : ℕ → Bool} {steps : List Step} → Accepted rows wanted known wanted steps → (other : ℕ → Bool)
    → ((s : ℕ) → known s ≡ true → read_by_any s steps ≡ true → other s ≡ true) → ((s : ℕ) → known s ≡ true → wanted s ≡ true → other s ≡ true)
    → Accepted rows wanted other wanted steps
accepted_others {wanted = wanted} {known = known} {steps = steps} accepted other reads_stay wanted_stays =
    record {
      uses_only_known = uses_only_others accepted.uses_only_known other reads_stay wanted_stays;
      filled = λ t is_wanted. filled_others steps known other t (λ is_known. wanted_stays t is_known is_wanted) (accepted.filled t is_wanted);
      right = accepted.right;
    }

-- What steps read is known at the start, or written
source_known_or_written : {writable known : ℕ → Bool} {steps : List Step} → UsesOnlyKnown writable known steps → (s : ℕ) → read_by_any s steps ≡ true
    → (known s ≡ true) ⊎ (writable s ≡ true)
unfolding read_by_any
source_known_or_written done s read = absurd (true≢false (sym read))
source_known_or_written {writable} {known} (next {p = p} {ps = ps} may_write is_ready later) s read =
    by_step (λ h. source_known_or_written later s h) (reads s p) refl read
  where
    is_source : (q : Step) → reads s q ≡ true → ready q known ≡ true → known s ≡ true
    is_source (Clear t) reads_it h = absurd (true≢false (sym reads_it))
    is_source (Copy t source) reads_it h = subst (λ (u : ℕ). known u ≡ true) (eqb-true source s reads_it) h
    is_source (Add t source) reads_it h = subst (λ (u : ℕ). known u ≡ true) (eqb-true source s reads_it) (and_right (known t) (known source) h)

    by_place : (here : Bool) → eqb s (target p) ≡ here → (here || known s) ≡ true → (known s ≡ true) ⊎ (writable s ≡ true)
    by_place true q h = inr (subst (λ (u : ℕ). writable u ≡ true) (sym (eqb-true s (target p) q)) may_write)
    by_place false q h = inl h

    by_later : (extend known (target p) s ≡ true) ⊎ (writable s ≡ true) → (known s ≡ true) ⊎ (writable s ≡ true)
    by_later (inl h) = by_place (eqb s (target p)) refl h
    by_later (inr h) = inr h

    by_step : (read_by_any s ps ≡ true → (extend known (target p) s ≡ true) ⊎ (writable s ≡ true)) → (here : Bool) → reads s p ≡ here → (here || read_by_any s ps) ≡ true
        → (known s ≡ true) ⊎ (writable s ≡ true)
    by_step rest true q h = inl (is_source p q is_ready)
    by_step rest false q h = by_later (rest h)

-- ------------------------------------------------------------------
-- The plan for other lost disks

module _ (code : LinearCode) (asked : Asked) {room : ℕ} (workable : Workable code asked room) (disks list : List ℕ) (other_workable : Workable code (listed_on_set disks list) room)
    (same : (s : ℕ) → asked_symbols code asked s ≡ asked_symbols code (listed_on_set disks list) s) (plan : Plan) (accepted : WouldBeAccepted code asked plan)
    (reads_survive : (s : ℕ) → survives code.layout asked.disks s ≡ true → read_by_any s (steps_of plan) ≡ true → survives code.layout disks s ≡ true) where
  -- The same steps in an edition 3 sheet with those lists
  abbrev pub plan_for : Plan
  plan_for =
      record {
        head = head_for 3 code.layout code.data_symbols (true_read_count (symbols code) (survives code.layout disks) (steps_of plan));
        failed = disks;
        wanted = list;
        steps = plan.steps;
      }

  steps_accepted : Accepted (matrix code) (asked_symbols code (listed_on_set disks list)) (survives code.layout disks) (asked_symbols code (listed_on_set disks list)) (steps_of plan)
  steps_accepted =
      subst (λ (set : ℕ → Bool). Accepted (matrix code) set (survives code.layout disks) set (steps_of plan)) (fun_ext same)
      (accepted_others
      (subst (λ (set : ℕ → Bool). Accepted (matrix code) set (survives code.layout asked.disks) set (steps_of plan)) (fun_ext accepted.wants_exactly)
      (accepted_if_fine code workable.within asked.disks plan accepted.rules_kept))
      (survives code.layout disks) reads_survive
      (λ s is_known is_wanted.
      absurd (true≢false (sym is_known ∙ lost_means_not_surviving code.layout asked.disks s (asked_is_lost code asked workable s is_wanted)))))

  -- It would be accepted for them
  pub plan_for_accepted : WouldBeAccepted code (listed_on_set disks list) plan_for
  plan_for_accepted =
      record {
        rules_kept =
            fine_if_deserves code workable.within disks plan_for plan_for.head.reads
            (deserves_if_rules_kept code workable.within disks plan_for
            (record {
              head_fits = head_fits_written code 3 plan_for.head.reads other_workable.edition_fits;
              failed_good = other_workable.disks_good;
              failed_asked = refl;
              wanted_good = other_workable.list_good;
            })
            (deserves_if_fine code workable.within asked.disks plan accepted.rules_kept).each_formed steps_accepted refl);
        wants_exactly = λ s. refl;
      }

-- ------------------------------------------------------------------
-- With the away disks

module _ (code : LinearCode) (disks list : List ℕ) (states : List DiskState) {room : ℕ} (workable : Workable code (listed_on_set disks list) room) where
  abbrev layout : Layout
  layout = code.layout

  abbrev gone : List ℕ
  gone = lost_disks layout disks states

  -- A symbol of the array that survives with the away disks lost lies on none of them
  not_away_if_survives : (s : ℕ) → survives layout gone s ≡ true → is_away (state_of states (disk_of layout s)) ≡ false
  not_away_if_survives s alive =
      let in_array = ltb-true s (symbols_of layout) (and_left (ltb s (symbols_of layout)) (not (listed gone (disk_of layout s))) alive) in
      let on = disk_of_below layout workable.within.height_from s in_array in
      by_state (is_away (state_of states (disk_of layout s))) refl (disk_of layout s) refl on (and_right (ltb s (symbols_of layout)) (not (listed gone (disk_of layout s))) alive)
    where
      by_state : (away : Bool) → is_away (state_of states (disk_of layout s)) ≡ away → (d : ℕ) → disk_of layout s ≡ d → d < layout.disks → not (listed gone d) ≡ true → away ≡ false
      by_state false q d e below free = refl
      by_state true q d e below free =
          absurd
          (true≢false
          (sym free
          ∙ ap not
          (listed_symbols_in (is_lost disks states layout.disks) layout.disks d
          ∙ and_true_if_both (ltb d layout.disks) (is_lost disks states layout.disks d) (lt-ltb d layout.disks below)
          (or_true_if_right (listed disks d) (ltb d layout.disks && is_away (state_of states d))
          (and_true_if_both (ltb d layout.disks) (is_away (state_of states d)) (lt-ltb d layout.disks below) (ap (λ (n : ℕ). is_away (state_of states n)) (sym e) ∙ q))))))

  -- One that survives without them survives so too
  survives_without : (s : ℕ) → survives layout gone s ≡ true → survives layout disks s ≡ true
  survives_without s alive =
      and_true_if_both (ltb s (symbols_of layout)) (not (listed disks (disk_of layout s))) (and_left (ltb s (symbols_of layout)) (not (listed gone (disk_of layout s))) alive)
      (by_list (listed disks (disk_of layout s)) refl)
    where
      by_list : (is_listed : Bool) → listed disks (disk_of layout s) ≡ is_listed → not is_listed ≡ true
      by_list false q = refl
      by_list true q =
          absurd
          (true≢false
          (sym (and_right (ltb s (symbols_of layout)) (not (listed gone (disk_of layout s))) alive)
          ∙ ap not (asked_stays_lost code disks list states workable (disk_of layout s) q)))

  -- and the other way round where its disk is not away
  survives_with : (s : ℕ) → survives layout disks s ≡ true → is_away (state_of states (disk_of layout s)) ≡ false → survives layout gone s ≡ true
  survives_with s alive present =
      and_true_if_both (ltb s (symbols_of layout)) (not (listed gone (disk_of layout s))) (and_left (ltb s (symbols_of layout)) (not (listed disks (disk_of layout s))) alive)
      (ap not (listed_symbols_in (is_lost disks states layout.disks) layout.disks (disk_of layout s)
      ∙ ap (λ (c : Bool). ltb (disk_of layout s) layout.disks && c)
      (ap₂ (λ (a b : Bool). a || (ltb (disk_of layout s) layout.disks && b))
      (not-true (listed disks (disk_of layout s)) (and_right (ltb s (symbols_of layout)) (not (listed disks (disk_of layout s))) alive)) present
      ∙ and-false (ltb (disk_of layout s) layout.disks))
      ∙ and-false (ltb (disk_of layout s) layout.disks)))

  -- A plan that avoids the away disks is one with these lost too
  pub some_with_away : (plan : Plan) → AvoidsAway code (listed_on_set disks list) states plan → SomePlanAccepted code (asked_with_away code (listed_on_set disks list) states)
  some_with_away plan avoiding =
      record {
        plan = _;
        accepted =
            plan_for_accepted code (listed_on_set disks list) workable _ _ (workable_with_away code disks list states workable)
            (λ s. sym (wants_as_asked code disks list states workable s)) plan avoiding.accepted (λ s alive read. survives_with s alive (avoiding.avoids s alive read));
      }

  -- and the other way round
  module _ (plan : Plan) (accepted : WouldBeAccepted code (asked_with_away code (listed_on_set disks list) states) plan) where
    may : Workable code (asked_with_away code (listed_on_set disks list) states) room
    may = workable_with_away code disks list states workable

    pub plan_without : Plan
    plan_without =
        plan_for code (asked_with_away code (listed_on_set disks list) states) may disks list workable (wants_as_asked code disks list states workable) plan accepted
        (λ s alive read. survives_without s alive)

    pub without_avoids : AvoidsAway code (listed_on_set disks list) states plan_without
    unfolding plan_without
    without_avoids =
        record {
          accepted =
              plan_for_accepted code (asked_with_away code (listed_on_set disks list) states) may disks list workable (wants_as_asked code disks list states workable) plan accepted
              (λ s alive read. survives_without s alive);
          avoids = λ s alive read. by_source s alive (source_known_or_written (accepted_if_fine code workable.within gone plan accepted.rules_kept).uses_only_known s read);
        }
      where
        by_source : (s : ℕ) → survives layout disks s ≡ true → (survives layout gone s ≡ true) ⊎ (wanted_of layout gone plan.wanted s ≡ true)
            → is_away (state_of states (disk_of layout s)) ≡ false
        by_source s alive (inl known) = not_away_if_survives s known
        by_source s alive (inr writes) =
            let is_wanted = sym (wants_as_asked code disks list states workable s) ∙ sym (accepted.wants_exactly s) ∙ writes in
            absurd (true≢false (sym alive ∙ lost_means_not_surviving layout disks s (asked_is_lost code (listed_on_set disks list) workable s is_wanted)))
