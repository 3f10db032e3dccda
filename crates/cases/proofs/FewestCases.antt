-- How few symbols a worked array can be planned with: patterns of which no survivor shows two, each shown on a wanted symbol, need a read each. Assumes nothing.
use mathlib.Core.Path.{◌≡◌, refl, sym, ap, ◌∙◌, subst}
use mathlib.Core.Bool.{Bool, true, false, cond, not, ◌&&◌, true≢false}
use mathlib.Core.List.{List, [], ◌∷◌}
use Prim.Native.Nat.{ℕ, zero, suc, ◌+◌, ◌≤◌, ◌<◌}
use native.Mathlib.Decide.{dec_le}
use native.Mathlib.Omega.{arith}
use lib.Dec.{eqb, ltb}
use lib.ListN.{length, get_or, take}
use borrow.Author.Tests.{ltb-false}
use Rattle.bits.specs.BitSets.{overlap}
use Rattle.bits.specs.Lists.{first_from, count_from}
use Rattle.bits.proofs.Booleans.{and_left, and_right, and_true_if_both}
use Rattle.bits.proofs.CountLaws.{count_from_within, count_from_apart, count_from_some}
use Rattle.bits.proofs.OverlapLaws.{even_if_not_odd}
use Rattle.bits.proofs.SearchLaws.{none_if_first_from_behind}
use Rattle.codes.specs.Codes.{LinearCode, symbols, matrix, WithinLimits}
use Rattle.code_sheets.specs.CodeReading.{reading}
use Rattle.fewest.specs.InnerFewest.{Enough}
use Rattle.fewest_planner.specs.FewestReads.{read_count, NoneReadsFewer}
use Rattle.fewest_planner.specs.FewestCall.{fewest_verdict, PromisedFewest}
use Rattle.fewest_planner.proofs.ReadLaws.{accepted_reads_enough}
use Rattle.plan_requests.specs.PlanRequests.{Asked, asked_symbols}
use Rattle.plan_sheets.specs.PlanSheets.{Plan, plan_in, steps_of}
use Rattle.planning.specs.Demand3.{WouldBeAccepted, GoodPlan}
use Rattle.planning.specs.InnerWork.{Workable}
use Rattle.planning.specs.Planning.{Found, APlan, APatterns}
use Rattle.plans.specs.Judgement.{survives, wanted_of}
use Rattle.plans.proofs.JudgementLaws.{fine_if_deserves, survives_below}
use Rattle.gf2.specs.Plans.{Within, read_by_any}
use Rattle.refusals.specs.Orders.{Fine, Answer, Gives, Refuses}
use Rattle.refusals.proofs.OrderLaws.{refused_is_not_fine}
use Rattle.cases.specs.Cases.{ReadsJust}

-- ------------------------------------------------------------------
-- Patterns that no symbol of a set shows two of

-- A pattern shows on a symbol
abbrev pub shown_on : List ℕ → ℕ → ℕ → Bool
shown_on rows pattern s = eqb (overlap pattern (get_or rows s 0)) 1

-- How many of the patterns do
unfoldable pub shown_by : List ℕ → List ℕ → ℕ → ℕ
shown_by rows [] s = 0
shown_by rows (pattern ∷ patterns) s = cond (shown_on rows pattern s) 1 0 + shown_by rows patterns s

-- One that does is among them
shown_is_counted : (rows patterns : List ℕ) (s i : ℕ) → i < length patterns → shown_on rows (get_or patterns i 0) s ≡ true → 1 ≤ shown_by rows patterns s
unfolding shown_by
shown_is_counted rows [] s i h shown = absurd (omega arith)
shown_is_counted rows (pattern ∷ patterns) s zero h shown = rw shown (omega arith)
shown_is_counted rows (pattern ∷ patterns) s (suc i) h shown = omega (arith, shown_is_counted rows patterns s i (omega arith) shown)

-- So each of them that shows on a symbol of the set has a symbol of its own there
own_symbols : (rows patterns : List ℕ) (set : ℕ → Bool) (count : ℕ)
    → ((i : ℕ) → i < length patterns → 1 ≤ count_from (λ s. set s && shown_on rows (get_or patterns i 0) s) 0 count)
    → ((s : ℕ) → set s ≡ true → shown_by rows patterns s ≤ 1) → length patterns ≤ count_from set 0 count
unfolding shown_by
own_symbols rows [] set count each few = omega arith
own_symbols rows (pattern ∷ patterns) set count each few =
    omega (
      arith,
      each 0 (omega arith),
      count_from_apart shown others set (λ s h. and_left (set s) (shown_on rows pattern s) h) (λ s h. and_left (set s) (not (shown_on rows pattern s)) h) apart 0 count,
      own_symbols rows patterns others count
          (λ i h. omega (arith, each (suc i) (omega arith), count_from_within _ _ (stays i h) 0 count))
          (λ s h. omega (arith, few s (and_left (set s) (not (shown_on rows pattern s)) h))),
    )
  where
    shown : ℕ → Bool
    shown s = set s && shown_on rows pattern s

    others : ℕ → Bool
    others s = set s && not (shown_on rows pattern s)

    apart : (s : ℕ) → shown s ≡ true → others s ≡ false
    apart s h = by_both (set s) (shown_on rows pattern s) h
      where
        by_both : (a b : Bool) → (a && b) ≡ true → (a && not b) ≡ false
        by_both true true q = refl
        by_both true false q = absurd (true≢false (sym q))
        by_both false b q = refl

    stays : (i : ℕ) → i < length patterns → (s : ℕ) → (set s && shown_on rows (get_or patterns i 0) s) ≡ true → (others s && shown_on rows (get_or patterns i 0) s) ≡ true
    stays i h s both = and_true_if_both (others s) (shown_on rows (get_or patterns i 0) s) (and_true_if_both (set s) (not (shown_on rows pattern s)) inside (not_first (shown_on rows pattern s) refl)) its
      where
        inside : set s ≡ true
        inside = and_left (set s) (shown_on rows (get_or patterns i 0) s) both

        its : shown_on rows (get_or patterns i 0) s ≡ true
        its = and_right (set s) (shown_on rows (get_or patterns i 0) s) both

        not_first : (c : Bool) → shown_on rows pattern s ≡ c → not c ≡ true
        not_first true e =
            let two : 1 + shown_by rows patterns s ≤ 1 = subst (λ (c : Bool). cond c 1 0 + shown_by rows patterns s ≤ 1) e (few s inside) in
            absurd (omega (arith, shown_is_counted rows patterns s i h its))
        not_first false e = refl

-- A set that is enough has a symbol that shows a pattern which a wanted symbol shows
enough_shows : (rows : List ℕ) (wanted set : ℕ → Bool) (count : ℕ) → ((s : ℕ) → set s ≡ true → s < count) → Enough rows wanted set
    → (pattern at : ℕ) → wanted at ≡ true → overlap pattern (get_or rows at 0) ≡ 1 → 1 ≤ count_from (λ s. set s && shown_on rows pattern s) 0 count
enough_shows rows wanted set count below enough pattern at is_wanted odd = by_count (dec_le 1 (count_from (λ s. set s && shown_on rows pattern s) 0 count))
  where
    by_count : Dec (1 ≤ count_from (λ s. set s && shown_on rows pattern s) 0 count) → 1 ≤ count_from (λ s. set s && shown_on rows pattern s) 0 count
    by_count (yes some) = some
    by_count (no none) = absurd (omega (arith, enough pattern even at is_wanted, odd))
      where
        even : (s : ℕ) → set s ≡ true → overlap pattern (get_or rows s 0) ≡ 0
        even s inside = even_if_not_odd pattern (get_or rows s 0) (not_shown (shown_on rows pattern s) refl)
          where
            not_shown : (c : Bool) → shown_on rows pattern s ≡ c → c ≡ false
            not_shown true e =
                absurd
                (none
                (count_from_some (λ t. set t && shown_on rows pattern t) 0 count s (omega arith) (omega (arith, below s inside)) (and_true_if_both (set s) (shown_on rows pattern s) inside e)))
            not_shown false e = refl

-- ------------------------------------------------------------------
-- The bound, by a test that is computed

-- Each pattern shows on a wanted symbol
abbrev pub EachShown : LinearCode → Asked → List ℕ → Type 0
EachShown code asked patterns = (i : ℕ) → i < length patterns → (at : ℕ) × (asked_symbols code asked at ≡ true) × (overlap (get_or patterns i 0) (get_or (matrix code) at 0) ≡ 1)

-- The first survivor that shows two, or N
abbrev pub first_showing_two : LinearCode → Asked → List ℕ → ℕ
first_showing_two code asked patterns = first_from (λ s. survives code.layout asked.disks s && ltb 1 (shown_by (matrix code) patterns s)) 0 (symbols code)

module _ (code : LinearCode) (asked : Asked) {room : ℕ} (workable : Workable code asked room) (patterns : List ℕ) (shown : EachShown code asked patterns)
    (none_twice : first_showing_two code asked patterns ≡ symbols code) where
  -- No survivor shows two
  one_at_most : (s : ℕ) → survives code.layout asked.disks s ≡ true → shown_by (matrix code) patterns s ≤ 1
  one_at_most s alive =
      ltb-false 1 (shown_by (matrix code) patterns s)
      (subst (λ (c : Bool). (c && ltb 1 (shown_by (matrix code) patterns s)) ≡ false) alive
      (none_if_first_from_behind (λ t. survives code.layout asked.disks t && ltb 1 (shown_by (matrix code) patterns t)) (symbols code) 0 s
      (omega (arith, none_twice)) (omega arith) (omega (arith, survives_below code.layout asked.disks s alive))))

  -- So every plan that would be accepted reads as many symbols as there are patterns, or more
  pub reads_at_least : NoneReadsFewer code asked (length patterns)
  reads_at_least plan accepted =
      let read : ℕ → Bool = λ s. survives code.layout asked.disks s && read_by_any s (steps_of plan) in
      let alive : Within read (survives code.layout asked.disks) = λ s h. and_left (survives code.layout asked.disks s) (read_by_any s (steps_of plan)) h in
      own_symbols (matrix code) patterns read (symbols code)
      (λ i h. enough_shows (matrix code) (asked_symbols code asked) read (symbols code) (λ s q. survives_below code.layout asked.disks s (alive s q))
      (accepted_reads_enough code asked workable plan accepted) (get_or patterns i 0) (shown i h).0 (shown i h).1 (shown i h).2)
      (λ s h. one_at_most s (alive s h))

-- ------------------------------------------------------------------
-- By code sheet

-- The plan that was given would be accepted
given_would_be : (code_sheet : List ℕ) → WithinLimits (reading code_sheet).code → (asked : Asked) (plan_length reads : ℕ) (buffer : List ℕ) → GoodPlan code_sheet asked plan_length reads buffer
    → WouldBeAccepted (reading code_sheet).code asked (plan_in (take plan_length buffer))
given_would_be code_sheet within asked plan_length reads buffer good =
    record {
      rules_kept = fine_if_deserves (reading code_sheet).code within asked.disks (plan_in (take plan_length buffer)) reads good.deserved.plan_deserves;
      wants_exactly = λ s. ap (λ (list : List ℕ). wanted_of (reading code_sheet).code.layout asked.disks list s) good.list_asked;
    }

-- Where a plan that reads so many would be accepted, and none can read fewer, the answer is a plan with this very count
pub answers_count : (code_sheet : List ℕ) → WithinLimits (reading code_sheet).code → (asked : Asked) (plan : Plan) → WouldBeAccepted (reading code_sheet).code asked plan
    → NoneReadsFewer (reading code_sheet).code asked (read_count (reading code_sheet).code asked plan)
    → (before after : List ℕ) (given : Answer Found) → fewest_verdict code_sheet asked (length before) ≡ Fine → PromisedFewest code_sheet asked before after given
    → ReadsJust (read_count (reading code_sheet).code asked plan) given
answers_count code_sheet within asked plan accepted none_fewer before after (Gives (APlan plan_length reads)) fine promised =
    let good = (promised.as_planning fine).demand3 in
    let count_is : read_count (reading code_sheet).code asked (plan_in (take plan_length after)) ≡ reads = good.deserved.plan_deserves.true_count in
    omega (arith, promised.fewest plan accepted, none_fewer (plan_in (take plan_length after)) (given_would_be code_sheet within asked plan_length reads after good))
answers_count code_sheet within asked plan accepted none_fewer before after (Gives (APatterns patterns)) fine promised =
    (promised.as_planning fine).demand3.0 plan accepted
answers_count code_sheet within asked plan accepted none_fewer before after (Refuses refusal) fine promised =
    refused_is_not_fine (promised.refusal ∙ fine)
