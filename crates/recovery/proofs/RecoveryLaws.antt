-- A test that computes: where elimination over the survivors of any two disks finds no pattern, any two have a plan. Then each disk has one.
-- Assumes nothing.
use mathlib.Core.Path.{◌≡◌, refl, sym, ap, ◌∙◌, subst}
use mathlib.Core.Bool.{Bool, true, false, not, ◌&&◌, ◌||◌, true≢false}
use mathlib.Core.List.{List, [], ◌∷◌}
use mathlib.Core.Logic.{⊎_elim}
use Prim.Native.Nat.{ℕ, zero, suc, ◌-◌, ◌≤◌, ◌<◌}
use native.Mathlib.Nat.{not-suc-le-zero, eq-or-lt_of_le, le_of_suc-le-suc}
use native.Mathlib.Decide.{dec_lt}
use native.Mathlib.Omega.{arith}
use lib.Dec.{eqb, ltb}
use lib.ListN.{get_or, take, drop}
use borrow.Author.Tests.{eqb-true, eqb-false, eq-eqb, lt-ltb}
use Rattle.bits.proofs.Booleans.{bool_cases, and_left, and_right, and_true_if_both, or_true_if_left, or_true_if_right}
use Rattle.codes.specs.Codes.{LinearCode, matrix, WithinLimits}
use Rattle.codes.specs.Layouts.{symbols_of, disk_of}
use Rattle.gf2.specs.InnerElimination.{remaining, nonempty, units}
use Rattle.gf2.proofs.IdentityRowLaws.{lost_units, remaining_after_identity_rows}
use Rattle.lists.specs.Lists.{GoodList, GoodDisks, listed, same}
use Rattle.lists.proofs.ListLaws.{same_means_equal}
use Rattle.plan_sheets.specs.InnerPlanSheets.{First, Third}
use Rattle.plans.specs.Judgement.{lost, survives}
use Rattle.plans.proofs.PatternLaws.{no_plan_if_pattern_odd}
use Rattle.solve.specs.InnerSolving.{odd_pattern}
use Rattle.solve.proofs.OddPatternLaws.{odd_pattern_nonempty, shows_if_found}
use Rattle.planning.specs.Demand3.{SomePlanAccepted}
use Rattle.planning.specs.InnerWork.{Workable}
use Rattle.plan_requests.specs.PlanRequests.{Asked, whole_disk, listed_on_set}
use Rattle.planning.proofs.WorkLaws.{targets, surviving_rows, patterns_left, pattern_found, target_wanted, steps_right}
use Rattle.planning.proofs.CallLaws.{some_plan}
use Rattle.recovery.specs.Recovery.{whole_pair, EachPairHasAPlan, EachDiskHasAPlan}

-- Whether a test holds of every number below a bound
unfoldable pub all_below : ℕ → (ℕ → Bool) → Bool
all_below zero test = true
all_below (suc bound) test = test bound && all_below bound test

pub all_below_holds : (bound : ℕ) (test : ℕ → Bool) → all_below bound test ≡ true → (n : ℕ) → n < bound → test n ≡ true
unfolding all_below
all_below_holds zero test all n h = absurd (not-suc-le-zero h)
all_below_holds (suc bound) test all n h =
    ⊎_elim
    (λ (same : n ≡ bound). ap test same ∙ and_left (test bound) (all_below bound test) all)
    (λ (less : n < bound). all_below_holds bound test (and_right (test bound) (all_below bound test) all) n less)
    (eq-or-lt_of_le (le_of_suc-le-suc h))

-- A set of one or two disks of an array is good
one_good : {disks disk : ℕ} → disk < disks → GoodDisks disks disks (disk ∷ [])
one_good {disks} {disk} below =
    record {
      count_from = omega arith;
      count_to = omega arith;
      each_allowed = allowed;
      rises = λ i from h. absurd (omega arith);
    }
  where
    allowed : (i : ℕ) → i < 1 → ltb (get_or (disk ∷ []) i 0) disks ≡ true
    allowed zero h = lt-ltb disk disks below
    allowed (suc i) h = absurd (omega arith)

pair_good : {disks disk other : ℕ} → disk < other → other < disks → GoodDisks disks disks (disk ∷ other ∷ [])
pair_good {disks} {disk} {other} apart below =
    record {
      count_from = omega arith;
      count_to = omega arith;
      each_allowed = allowed;
      rises = rises;
    }
  where
    allowed : (i : ℕ) → i < 2 → ltb (get_or (disk ∷ other ∷ []) i 0) disks ≡ true
    allowed zero h = lt-ltb disk disks (omega arith)
    allowed (suc zero) h = lt-ltb other disks below
    allowed (suc (suc i)) h = absurd (omega arith)

    rises : (i : ℕ) → 1 ≤ i → i < 2 → get_or (disk ∷ other ∷ []) (i - 1) 0 < get_or (disk ∷ other ∷ []) i 0
    rises zero from h = absurd (omega arith)
    rises (suc zero) from h = apart
    rises (suc (suc i)) from h = absurd (omega arith)

-- An empty list is good where none is needed
none_listed : {most : ℕ} {allowed : ℕ → Bool} → GoodList 0 most allowed []
none_listed = record { count_from = omega arith; count_to = omega arith; each_allowed = λ i h. absurd (not-suc-le-zero h); rises = λ i from h. absurd (not-suc-le-zero h) }

-- ------------------------------------------------------------------
-- Two disks

-- Planning for two disks of a code within the limits has what it needs
workable_pair : (code : LinearCode) → WithinLimits code → (disk other : ℕ) → disk < other → other < code.layout.disks → Workable code (whole_pair disk other) 3210
workable_pair code within disk other apart below =
    record { within = within; disks_good = pair_good apart below; edition_fits = Third refl; list_good = none_listed; room = omega arith }

-- Whether the first K rows are the identity rows
abbrev pub begins_with_units : LinearCode → Bool
begins_with_units code = same (take code.data_symbols (matrix code)) (units code.data_symbols)

-- The pattern that elimination finds, worked out from the units of the lost data symbols and the rows of the parity symbols alone
abbrev pattern_left : LinearCode → Asked → ℕ
pattern_left code asked =
    odd_pattern
    (nonempty (remaining (lost_units (survives code.layout asked.disks) code.data_symbols 0) (drop code.data_symbols (surviving_rows code asked))))
    (matrix code) (targets code asked)

-- Where the first rows are the identity rows, it is the one that elimination over all symbols finds
pattern_left_is_pattern_found : (code : LinearCode) → begins_with_units code ≡ true → (asked : Asked) → pattern_left code asked ≡ pattern_found code asked
pattern_left_is_pattern_found code begins asked =
    ap (λ (patterns : List ℕ). odd_pattern patterns (matrix code) (targets code asked))
    (sym (remaining_after_identity_rows code.data_symbols (survives code.layout asked.disks) (matrix code) (same_means_equal _ _ begins)))
    ∙ odd_pattern_nonempty (patterns_left code asked) (matrix code) (targets code asked)

-- Whether elimination finds no pattern for a disk and any before it
abbrev no_pattern_with : LinearCode → ℕ → Bool
no_pattern_with code other = all_below other (λ disk. eqb (pattern_left code (whole_pair disk other)) 0)

-- nor for any two disks, and the first rows are the identity rows
abbrev pub no_pattern_for_pairs : LinearCode → Bool
no_pattern_for_pairs code = begins_with_units code && all_below code.layout.disks (no_pattern_with code)

-- Then any two disks have a plan
pub each_pair_has_a_plan : (code : LinearCode) → WithinLimits code → no_pattern_for_pairs code ≡ true → EachPairHasAPlan code
each_pair_has_a_plan code within none disk other apart below =
    let pair = whole_pair disk other in
    let workable = workable_pair code within disk other apart below in
    let begins = and_left (begins_with_units code) _ none in
    let of_other = all_below_holds code.layout.disks (no_pattern_with code) (and_right (begins_with_units code) _ none) other below in
    let of_both = all_below_holds other (λ d. eqb (pattern_left code (whole_pair d other)) 0) of_other disk apart in
    some_plan code pair workable _ _ (steps_right code pair workable (sym (pattern_left_is_pattern_found code begins pair) ∙ eqb-true _ 0 of_both))

-- ------------------------------------------------------------------
-- One disk

-- Planning for a whole disk has what it needs
workable_whole : (code : LinearCode) → WithinLimits code → (disk : ℕ) → disk < code.layout.disks → Workable code (whole_disk disk) 3081
workable_whole code within disk below =
    record {
      within = within;
      disks_good = one_good below;
      edition_fits = First refl refl refl;
      list_good = none_listed;
      room = omega arith;
    }

module _ (code : LinearCode) (within : WithinLimits code) (disk : ℕ) (below : disk < code.layout.disks) (disks : List ℕ) (among : listed disks disk ≡ true) where
  -- What is on the disk is on a disk of the list
  on_list : (s : ℕ) → listed (disk ∷ []) (disk_of code.layout s) ≡ true → listed disks (disk_of code.layout s) ≡ true
  unfolding listed
  on_list s on_disk = bool_cases
      (λ c. eqb (disk_of code.layout s) disk ≡ c → (c || false) ≡ true → listed disks (disk_of code.layout s) ≡ true)
      (λ same e. subst (λ (d : ℕ). listed disks d ≡ true) (sym (eqb-true (disk_of code.layout s) disk same)) among)
      (λ other e. absurd (true≢false (sym e)))
      (eqb (disk_of code.layout s) disk) refl on_disk

  lost_with_others : (s : ℕ) → lost code.layout (disk ∷ []) s ≡ true → lost code.layout disks s ≡ true
  lost_with_others s is_lost =
      and_true_if_both (ltb s (symbols_of code.layout)) _ (and_left (ltb s (symbols_of code.layout)) _ is_lost)
      (on_list s (and_right (ltb s (symbols_of code.layout)) _ is_lost))

  -- and what survives all of them survives the disk
  survives_alone : (s : ℕ) → survives code.layout disks s ≡ true → survives code.layout (disk ∷ []) s ≡ true
  survives_alone s alive =
      and_true_if_both (ltb s (symbols_of code.layout)) _ (and_left (ltb s (symbols_of code.layout)) _ alive)
      (not_on_disk (listed (disk ∷ []) (disk_of code.layout s)) (listed disks (disk_of code.layout s)) (on_list s) (and_right (ltb s (symbols_of code.layout)) _ alive))
    where
      not_on_disk : (a b : Bool) → (a ≡ true → b ≡ true) → not b ≡ true → not a ≡ true
      not_on_disk true b h e = absurd (true≢false (sym e ∙ ap not (h refl)))
      not_on_disk false b h e = refl

  -- Where all disks of a list have a plan, each has one by itself: a pattern that ruled its plans out would rule out theirs
  plan_by_itself : SomePlanAccepted code (listed_on_set disks []) → SomePlanAccepted code (whole_disk disk)
  plan_by_itself some = by_pattern (eqb (pattern_found code (whole_disk disk)) 0) refl
    where
      workable : Workable code (whole_disk disk) 3081
      workable = workable_whole code within disk below

      by_pattern : (none : Bool) → eqb (pattern_found code (whole_disk disk)) 0 ≡ none → SomePlanAccepted code (whole_disk disk)
      by_pattern true none = some_plan code (whole_disk disk) workable _ _ (steps_right code (whole_disk disk) workable (eqb-true _ 0 none))
      by_pattern false found =
          let shows = shows_if_found code.data_symbols (survives code.layout (disk ∷ [])) (matrix code) (targets code (whole_disk disk)) (eqb-false _ 0 found) in
          let t = shows.place in
          let is_lost = lost_with_others t (target_wanted code (whole_disk disk) workable t shows.among) in
          absurd
          (no_plan_if_pattern_odd code within disks (pattern_found code (whole_disk disk)) (λ s alive. shows.even_on_known s (survives_alone s alive)) t is_lost shows.odd_there
          some.plan (some.accepted.wants_exactly t ∙ is_lost) some.accepted.rules_kept)

-- Where any two disks have a plan, each has one: an array has at least two
pub each_disk_has_a_plan : (code : LinearCode) → WithinLimits code → EachPairHasAPlan code → EachDiskHasAPlan code
unfolding listed
each_disk_has_a_plan code within pairs disk below = by_place (dec_lt 0 disk)
  where
    itself : eqb disk disk ≡ true
    itself = eq-eqb disk disk refl

    by_place : Dec (0 < disk) → SomePlanAccepted code (whole_disk disk)
    by_place (yes later) =
        plan_by_itself code within disk below (0 ∷ disk ∷ []) (or_true_if_right (eqb disk 0) _ (or_true_if_left (eqb disk disk) false itself)) (pairs 0 disk later below)
    by_place (no first) =
        plan_by_itself code within disk below (disk ∷ 1 ∷ []) (or_true_if_left (eqb disk disk) _ itself) (pairs disk 1 (omega arith) (omega (arith, within.disks_from)))
