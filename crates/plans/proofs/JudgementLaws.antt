-- Demand 2 for a plan with any number of steps, in both directions: its verdict is fine exactly where it deserves acceptance. Assumes nothing.
use mathlib.Core.Path.{◌≡◌, refl, sym, ap, ◌∙◌, subst}
use mathlib.Core.Bool.{Bool, true, false, cond, not, ◌&&◌, ◌||◌, or-false, true≢false}
use mathlib.Core.List.Memᴰ
use mathlib.Core.List.{List, [], ◌∷◌, ◌++◌, map}
use mathlib.Core.Logic.{◌⊎◌, inl, inr, ⊎_elim}
use Prim.Native.Nat.{ℕ, suc, ◌*◌, ◌^◌, ◌≤◌, ◌<◌}
use native.Mathlib.Omega.{arith}
use native.Mathlib.Decide.{dec_lt}
use lib.Dec.{eqb, ltb}
use lib.ListN.{length, get_or, take, get_or-eq_default}
use lib.Pow.{pow_pos}
use lib.Seq.{length-take-le, get_or-take}
use borrow.Author.Tests.{lt-ltb, le-ltb, ltb-true, ltb-false, eq-eqb, eqb-true, not-true, not-false}
use Rattle.codes.specs.Codes.{LinearCode, symbols, matrix, WithinLimits}
use Rattle.codes.specs.Layouts.{symbols_of, first_symbol, disk_of}
use Rattle.codes.specs.declared.Layout.{Layout}
use Rattle.codes.proofs.LayoutLaws.{strip_within, on_disk_between, on_disk_of}
use Rattle.gf2.specs.Plans.{run, Within, PlacesBelow, extend, UsesOnlyKnown, done, next, Accepted}
use Rattle.gf2.specs.Selection.{Below}
use Rattle.gf2.specs.Stripes.{Valid, run_on_stripe, SameSymbols, RestoresStripes}
use Rattle.bits.proofs.Booleans.{and_left, and_right, and_true_if_both}
use Rattle.bits.proofs.CountLaws.{count_from_halves}
use Rattle.gf2.proofs.Columns.{length_run_on_stripe}
use Rattle.gf2.proofs.PlanLaws.{run_take}
use Rattle.bits.proofs.SearchLaws.{first_from_none, none_if_first_from_behind}
use Rattle.gf2.proofs.StripeLaws.{uses_only_known_names_below, accepted_restores_stripes, accepted_gives_stripe_back, accepted_depends_on_known, run_on_stripe_keeps_unwritable, accepted_if_restores_stripes, restores_means_filled}
use Rattle.lists.specs.Lists.{GoodList, listed, disk_faults, same}
use Rattle.lists.proofs.ListLaws.{good_if_no_fault, no_fault_if_good, listed_passes, good_disks_if_no_fault, no_fault_if_good_disks, same_means_equal, same_itself}
use Rattle.refusals.specs.Orders.{Fault, ◌gets◌, first_of, if_fine, Outcome, Fine, Refused}
use Rattle.refusals.specs.Refusals.{◌at◌}
use Rattle.refusals.proofs.OrderLaws.{NoneHolds, fine_means_none_holds, none_holds_means_fine, none_holds_join, none_holds_first, none_holds_second, refused_is_not_fine}
use Rattle.plan_sheets.specs.PlanSheets.{Plan, first_count, step_of, steps_of}
use Rattle.plan_sheets.specs.declared.step.SheetStep.{SheetStep}
use Rattle.plan_sheets.specs.declared.head.PlanHead.{PlanHead}
use Rattle.plans.specs.Judgement.{lost, survives, lost_count, edition_of, head_faults, most_failed, failed_faults, wanted_of, kept_of, wanted_faults, EachFormed, step_faults, steps_verdict, true_read_count, never_filled, ends_wrong, lowest_wanted, end_faults, SetsWithin, judgement, origin_of, body_verdict, plan_faults, plan_verdict, GoodFailed, GoodWanted}
use Rattle.plans.specs.Demand2.{HeadFits, Deserves}
use Rattle.plan_sheets.proofs.ReadingLaws.{target_step_of}

-- ------------------------------------------------------------------
-- Verdicts joined

-- A fine verdict behind a verdict means that both are fine
pub both_fine : (first second : Outcome) → if_fine first second first ≡ Fine → (first ≡ Fine) × (second ≡ Fine)
both_fine Fine second e = (refl, e)
both_fine (Refused refusal) second e = absurd (refused_is_not_fine e)

-- Two fine verdicts make a fine one
pub fine_if_both : {first second : Outcome} → first ≡ Fine → second ≡ Fine → if_fine first second first ≡ Fine
fine_if_both {first} {second} e f = ap (λ (v : Outcome). if_fine v second v) e ∙ f

-- Equal numbers pass a test that they be so
same_passes : {a b : ℕ} → a ≡ b → not (eqb a b) ≡ false
same_passes {a} {b} same = ap not (eq-eqb a b same)

-- ------------------------------------------------------------------
-- The head

-- A first count and an edition for it that are tested for
edition_known : (count edition : ℕ) → (eqb count 5 || eqb count 6) ≡ true → edition_of count edition ≡ true
    → ((edition ≡ 1) ⊎ (edition ≡ 2) ⊎ (edition ≡ 3)) × (count ≡ first_count edition)
edition_known count edition = by_count (eqb count 5) (eqb count 6) refl refl
  where
    older : count ≡ 6 → (one two : Bool) → eqb edition 1 ≡ one → eqb edition 2 ≡ two → (one || two) ≡ true → ((edition ≡ 1) ⊎ (edition ≡ 2) ⊎ (edition ≡ 3)) × (count ≡ first_count edition)
    older six true two p q h = (inl (eqb-true edition 1 p), rw (eqb-true edition 1 p) six)
    older six false true p q h = (inr (inl (eqb-true edition 2 q)), rw (eqb-true edition 2 q) six)
    older six false false p q h = absurd (true≢false (sym h))

    by_count : (five six : Bool) → eqb count 5 ≡ five → eqb count 6 ≡ six → (five || six) ≡ true → cond five (eqb edition 3) (eqb edition 1 || eqb edition 2) ≡ true
        → ((edition ≡ 1) ⊎ (edition ≡ 2) ⊎ (edition ≡ 3)) × (count ≡ first_count edition)
    by_count true six p q h k = (inr (inr (eqb-true edition 3 k)), rw (eqb-true edition 3 k) (eqb-true count 5 p))
    by_count false true p q h k = older (eqb-true count 6 q) (eqb edition 1) (eqb edition 2) refl refl k
    by_count false false p q h k = absurd (true≢false (sym h))

-- pass the tests
edition_passes : (count edition : ℕ) → (edition ≡ 1) ⊎ (edition ≡ 2) ⊎ (edition ≡ 3) → count ≡ first_count edition
    → (not (eqb count 5 || eqb count 6) ≡ false) × (not (edition_of count edition) ≡ false)
edition_passes count edition known e = ⊎_elim one (⊎_elim two three) known
  where
    one : edition ≡ 1 → (not (eqb count 5 || eqb count 6) ≡ false) × (not (edition_of count edition) ≡ false)
    one is = rw (e, is) (refl, refl)

    two : edition ≡ 2 → (not (eqb count 5 || eqb count 6) ≡ false) × (not (edition_of count edition) ≡ false)
    two is = rw (e, is) (refl, refl)

    three : edition ≡ 3 → (not (eqb count 5 || eqb count 6) ≡ false) × (not (edition_of count edition) ≡ false)
    three is = rw (e, is) (refl, refl)

-- A head without a fault fits the code
head_fits_if_fine : (code : LinearCode) (head : PlanHead) → NoneHolds (head_faults code.layout code.data_symbols head) → HeadFits code head
head_fits_if_fine code head none =
    let known = edition_known head.count head.edition (not-false _ none.0) (not-false _ none.1.0) in
    record {
      edition = known.0;
      count_fits = known.1;
      disks = eqb-true _ _ (not-false _ none.1.1.0);
      height = eqb-true _ _ (not-false _ none.1.1.1.0);
      data_symbols = eqb-true _ _ (not-false _ none.1.1.1.1.0);
    }

-- A head that fits has no fault
head_fine_if_fits : (code : LinearCode) (head : PlanHead) → HeadFits code head → NoneHolds (head_faults code.layout code.data_symbols head)
head_fine_if_fits code head fits =
    let known = edition_passes head.count head.edition fits.edition fits.count_fits in
    (known.0, (known.1, (same_passes fits.disks, (same_passes fits.height, (same_passes fits.data_symbols, tt)))))

module _ (layout : Layout) (disks : List ℕ) (edition : ℕ) (failed : List ℕ) where
  abbrev list_fault : List Fault
  list_fault = (not (same failed disks) gets 16 at 0) ∷ []

  -- Failed disks without a fault are good ones, and those asked
  pub failed_if_fine : NoneHolds (failed_faults layout disks edition failed) → GoodFailed layout edition failed × (failed ≡ disks)
  failed_if_fine none =
      let lists = disk_faults layout.disks (most_failed edition layout.disks) failed in (
        good_disks_if_no_fault layout.disks (most_failed edition layout.disks) failed (none_holds_first lists list_fault none),
        same_means_equal failed disks (not-false _ (none_holds_second lists list_fault none).0),
      )

  -- and the other way round
  pub failed_fine_if : GoodFailed layout edition failed → failed ≡ disks → NoneHolds (failed_faults layout disks edition failed)
  failed_fine_if good asked =
      none_holds_join (disk_faults layout.disks (most_failed edition layout.disks) failed) list_fault
      (no_fault_if_good_disks layout.disks (most_failed edition layout.disks) failed good)
      (ap not (ap (same failed) (sym asked) ∙ same_itself failed), tt)

-- ------------------------------------------------------------------
-- The steps

module _ (count : ℕ) (wanted : ℕ → Bool) where
  -- A fine verdict on the steps means that each is well formed
  each_formed_if_fine : (known : ℕ → Bool) (number : ℕ) (steps : List SheetStep) → steps_verdict count wanted known number steps ≡ Fine
      → EachFormed count steps
  unfolding steps_verdict
  each_formed_if_fine known number [] e s there = elim there [ ]
  each_formed_if_fine known number (first ∷ steps) e s (Memᴰ.head same) =
      let here = first_of (step_faults count wanted known number first) in
      let none = (fine_means_none_holds Fine (step_faults count wanted known number first) (both_fine here _ e).0).1 in
      rw same (record { not_malformed = none.0; not_onto_itself = none.1.1.0 })
  each_formed_if_fine known number (first ∷ steps) e s (Memᴰ.tail m) =
      let here = first_of (step_faults count wanted known number first) in
      each_formed_if_fine (extend known first.target) (suc number) steps (both_fine here _ e).1 s m

  -- and that the plan uses only surviving symbols or places already filled
  pub uses_only_known_if_fine : (known : ℕ → Bool) (number : ℕ) (steps : List SheetStep) → steps_verdict count wanted known number steps ≡ Fine
      → UsesOnlyKnown wanted known (map step_of steps)
  unfolding steps_verdict
  uses_only_known_if_fine known number [] e = done
  uses_only_known_if_fine known number (s ∷ steps) e =
      let both = both_fine (first_of (step_faults count wanted known number s)) _ e in
      let none = (fine_means_none_holds Fine (step_faults count wanted known number s) both.0).1 in
      next (ap wanted (target_step_of s) ∙ not-false _ none.1.0) (not-false _ none.1.1.1.0)
      (subst (λ (t : ℕ). UsesOnlyKnown wanted (extend known t) (map step_of steps)) (sym (target_step_of s))
      (uses_only_known_if_fine (extend known s.target) (suc number) steps both.1))

  -- Steps that are well formed and use only what is known have a fine verdict
  steps_fine_if_uses_only_known : (known : ℕ → Bool) (number : ℕ) (steps : List SheetStep) → EachFormed count steps
      → UsesOnlyKnown wanted known (map step_of steps) → steps_verdict count wanted known number steps ≡ Fine
  unfolding steps_verdict
  steps_fine_if_uses_only_known known number [] formed uses = refl
  steps_fine_if_uses_only_known known number (s ∷ steps) formed (next writes is_ready rest) =
      let target_wanted : not (wanted s.target) ≡ false = ap not (ap wanted (sym (target_step_of s)) ∙ writes) in
      let here = formed s (Memᴰ.head refl) in
      fine_if_both
      (none_holds_means_fine (step_faults count wanted known number s) (here.not_malformed, (target_wanted, (here.not_onto_itself, (ap not is_ready, tt)))))
      (steps_fine_if_uses_only_known (extend known s.target) (suc number) steps (λ q m. formed q (Memᴰ.tail m))
      (subst (λ (t : ℕ). UsesOnlyKnown wanted (extend known t) (map step_of steps)) (target_step_of s) rest))

-- ------------------------------------------------------------------
-- The wanted symbols

module _ (count : ℕ) (wanted : ℕ → Bool) (below : PlacesBelow count wanted) (test : ℕ → Bool) where
  -- Where the search for the lowest finds none, the test holds at no wanted symbol
  pub none_wanted_if_none_lowest : count ≤ lowest_wanted count wanted test → (s : ℕ) → wanted s ≡ true → test s ≡ false
  none_wanted_if_none_lowest behind s is_wanted =
      let none = none_if_first_from_behind (λ t. wanted t && test t) count 0 s (omega arith) (omega arith) (omega (arith, below s is_wanted)) in
      sym (ap (λ (c : Bool). c && test s) is_wanted) ∙ none

  -- Where the test holds at no wanted symbol, the search finds none
  none_lowest_if_none_wanted : ((s : ℕ) → wanted s ≡ true → test s ≡ false) → count ≤ lowest_wanted count wanted test
  none_lowest_if_none_wanted none = omega (arith, first_from_none (λ t. wanted t && test t) count 0 (λ s a b. none_here s (wanted s) refl))
    where
      none_here : (s : ℕ) (here : Bool) → wanted s ≡ here → (here && test s) ≡ false
      none_here s true e = none s e
      none_here s false e = refl

-- ------------------------------------------------------------------
-- The judgement by sets

-- What a fine judgement says of the steps and of the stated count
pub record RulesKept (rows : List ℕ) (count : ℕ) (survives wanted : ℕ → Bool) (steps : List SheetStep) (stated : ℕ) : Type 0 where
  pub each_formed : EachFormed count steps
  pub accepted : Accepted (take count rows) wanted survives wanted (map step_of steps)
  pub true_count : stated ≡ true_read_count count survives (map step_of steps)

module _ (rows : List ℕ) (count : ℕ) (survives wanted : ℕ → Bool) (origin : ℕ) (sets : SetsWithin count survives wanted origin) (steps : List SheetStep) (stated : ℕ) where
  -- Run on the rows of the symbols, the steps give each symbol what they give it run on all rows
  pub run_on_symbols : UsesOnlyKnown wanted survives (map step_of steps) → (t : ℕ) → t < count
      → get_or (run (map step_of steps) (take count rows)) t 0 ≡ get_or (run (map step_of steps) rows) t 0
  run_on_symbols formed t h =
      ap (λ (l : List ℕ). get_or l t 0)
      (run_take count (map step_of steps) rows (uses_only_known_names_below count sets.wanted_below formed sets.survives_below))
      ∙ get_or-take count (run (map step_of steps) rows) t 0 h

  -- A fine judgement means that every rule is kept
  pub rules_kept_if_fine : judgement rows count survives wanted origin steps stated ≡ Fine → RulesKept rows count survives wanted steps stated
  unfolding judgement
  rules_kept_if_fine e =
      let both = both_fine (steps_verdict count wanted survives 0 steps) _ e in
      let none = (fine_means_none_holds Fine (end_faults rows count survives wanted origin (map step_of steps) stated) both.1).1 in
      let formed = uses_only_known_if_fine count wanted survives 0 steps both.0 in
      record {
        each_formed = each_formed_if_fine count wanted survives 0 steps both.0;
        accepted =
            record {
              uses_only_known = formed;
              filled =
                  λ t is_wanted.
                  not-false _
                  (none_wanted_if_none_lowest count wanted sets.wanted_below (never_filled survives (map step_of steps)) (ltb-false _ _ none.0) t is_wanted);
              right =
                  λ t is_wanted.
                  run_on_symbols formed t (sets.wanted_below t is_wanted)
                  ∙ eqb-true _ _
                  (not-false _
                  (none_wanted_if_none_lowest count wanted sets.wanted_below (ends_wrong rows (map step_of steps)) (ltb-false _ _ none.1.0) t is_wanted))
                  ∙ sym (get_or-take count rows t 0 (sets.wanted_below t is_wanted));
            };
        true_count = eqb-true _ _ (not-false _ none.1.1.0);
      }

  -- Where every rule is kept, the judgement is fine
  pub fine_if_rules_kept : RulesKept rows count survives wanted steps stated → judgement rows count survives wanted origin steps stated ≡ Fine
  unfolding judgement
  fine_if_rules_kept kept =
      let formed = kept.accepted.uses_only_known in
      let each_filled = none_lowest_if_none_wanted count wanted sets.wanted_below (never_filled survives (map step_of steps))
      (λ t is_wanted. ap not (kept.accepted.filled t is_wanted)) in
      let Each-right = none_lowest_if_none_wanted count wanted sets.wanted_below (ends_wrong rows (map step_of steps))
      (λ t is_wanted.
      same_passes
      (sym (run_on_symbols formed t (sets.wanted_below t is_wanted)) ∙ kept.accepted.right t is_wanted ∙ get_or-take count rows t 0 (sets.wanted_below t is_wanted))) in
      fine_if_both (steps_fine_if_uses_only_known count wanted survives 0 steps kept.each_formed formed)
      (none_holds_means_fine (end_faults rows count survives wanted origin (map step_of steps) stated)
      (le-ltb _ _ each_filled, (le-ltb _ _ Each-right, (same_passes kept.true_count, tt))))

-- ------------------------------------------------------------------
-- Lost and surviving symbols

module _ (layout : Layout) (disks : List ℕ) where
  -- Lost symbols are symbols of the array
  pub lost_below : PlacesBelow (symbols_of layout) (lost layout disks)
  lost_below s h = ltb-true s (symbols_of layout) (and_left (ltb s (symbols_of layout)) (listed disks (disk_of layout s)) h)

  -- and no more of them than it has
  pub lost_at_most : lost_count layout disks ≤ symbols_of layout
  lost_at_most = omega (arith, count_from_halves (lost layout disks) (λ s. not (lost layout disks s)) 0 (symbols_of layout) (λ s h. refl))

  -- So are surviving ones
  pub survives_below : PlacesBelow (symbols_of layout) (survives layout disks)
  survives_below s h = ltb-true s (symbols_of layout) (and_left (ltb s (symbols_of layout)) (not (listed disks (disk_of layout s))) h)

  -- A lost symbol does not survive
  pub lost_means_not_surviving : (s : ℕ) → lost layout disks s ≡ true → survives layout disks s ≡ false
  lost_means_not_surviving s = by_tests (ltb s (symbols_of layout)) (listed disks (disk_of layout s))
    where
      by_tests : (in_array on : Bool) → (in_array && on) ≡ true → (in_array && not on) ≡ false
      by_tests true true e = refl
      by_tests true false e = absurd (true≢false (sym e))
      by_tests false on e = refl

  -- Wanted symbols are lost
  pub wanted_is_lost : {least most : ℕ} (list : List ℕ) → GoodList least most (lost layout disks) list → (s : ℕ) → wanted_of layout disks list s ≡ true → lost layout disks s ≡ true
  wanted_is_lost list good s = by_list (eqb (length list) 0)
    where
      by_list : (none : Bool) → cond none (lost layout disks s) (listed list s) ≡ true → lost layout disks s ≡ true
      by_list true h = h
      by_list false h = listed_passes list (lost layout disks) good.each_allowed s h

-- ------------------------------------------------------------------
-- Where places count from

-- A list of one entry is that entry
one_entry : (list : List ℕ) → 1 ≤ length list → length list ≤ 1 → list ≡ get_or list 0 0 ∷ []
one_entry [] from to = absurd (omega arith)
one_entry (entry ∷ []) from to = refl
one_entry (entry ∷ (other ∷ list)) from to = absurd (omega arith)

-- Symbols on one disk lie from its first on
lost_from : (layout : Layout) → 1 ≤ layout.height → (disk s : ℕ) → lost layout (disk ∷ []) s ≡ true → first_symbol layout disk ≤ s
unfolding listed
lost_from layout some disk s is_lost =
    (on_disk_between layout disk s
    (on_disk_of layout some disk s ∙ sym (or-false (eqb (disk_of layout s) disk)) ∙ and_right (ltb s (symbols_of layout)) _ is_lost)).0

module _ (layout : Layout) (some : 1 ≤ layout.height) (disks : List ℕ) (edition : ℕ) (good : GoodFailed layout edition disks) where
  -- The first of the disks is one of the array's
  pub first_disk_below : get_or disks 0 0 < layout.disks
  first_disk_below = ltb-true _ _ (good.each_allowed 0 good.count_from)

  -- No lost symbol lies before the origin
  pub origin_before : (s : ℕ) → lost layout disks s ≡ true → origin_of layout disks edition ≤ s
  origin_before s is_lost = by_edition (eqb edition 3) refl
    where
      by_edition : (third : Bool) → eqb edition 3 ≡ third → cond third 0 (first_symbol layout (get_or disks 0 0)) ≤ s
      by_edition true e = omega arith
      by_edition false e =
          let few : length disks ≤ 1 = subst (λ (c : Bool). length disks ≤ cond c layout.disks 1) e good.count_to in
          lost_from layout some (get_or disks 0 0) s (subst (λ (l : List ℕ). lost layout l s ≡ true) (one_entry disks good.count_from few) is_lost)

  -- and it lies within the array
  origin_within : origin_of layout disks edition ≤ symbols_of layout
  origin_within = by_edition (eqb edition 3)
    where
      by_edition : (third : Bool) → cond third 0 (first_symbol layout (get_or disks 0 0)) ≤ symbols_of layout
      by_edition true = omega arith
      by_edition false = omega (arith, strip_within layout (get_or disks 0 0) first_disk_below)

  -- The sets that a plan is judged by
  pub plan_sets : {least most : ℕ} (list : List ℕ) → GoodList least most (lost layout disks) list
      → SetsWithin (symbols_of layout) (survives layout disks) (wanted_of layout disks list) (origin_of layout disks edition)
  plan_sets list wanted_good =
      let is_lost = wanted_is_lost layout disks list wanted_good in
      record {
        survives_below = survives_below layout disks;
        wanted_below = λ s is_wanted. lost_below layout disks s (is_lost s is_wanted);
        wanted_lost = λ s is_wanted. lost_means_not_surviving layout disks s (is_lost s is_wanted);
        wanted_from = λ s is_wanted. origin_before s (is_lost s is_wanted);
        origin_to = origin_within;
      }

-- ------------------------------------------------------------------
-- The matrix

module _ (code : LinearCode) (within : WithinLimits code) where
  -- The matrix has a row for each symbol
  pub length_matrix : length (matrix code) ≡ symbols code
  length_matrix = length-take-le (symbols code) code.rows (omega (arith, within.symbols_to, within.rows_held))

  -- Its rows have K bits
  pub matrix_below : Below code.data_symbols (matrix code)
  matrix_below s = by_side (dec_lt s (symbols code))
    where
      by_side : Dec (s < symbols code) → get_or (matrix code) s 0 < 2 ^ code.data_symbols
      by_side (yes h) = subst (λ (row : ℕ). row < 2 ^ code.data_symbols) (sym (get_or-take (symbols code) code.rows s 0 h)) (within.rows_below s)
      by_side (no h) =
          subst (λ (row : ℕ). row < 2 ^ code.data_symbols) (sym (get_or-eq_default (matrix code) 0 (omega (arith, length_matrix)))) (pow_pos code.data_symbols)

  -- Lost symbols are rows of the matrix
  pub matrix_lost_below : (disks : List ℕ) → PlacesBelow (length (matrix code)) (lost code.layout disks)
  matrix_lost_below disks = subst (λ (n : ℕ). PlacesBelow n (lost code.layout disks)) (sym length_matrix) (lost_below code.layout disks)

  -- So are surviving ones
  pub matrix_survives_below : (disks : List ℕ) → PlacesBelow (length (matrix code)) (survives code.layout disks)
  matrix_survives_below disks = subst (λ (n : ℕ). PlacesBelow n (survives code.layout disks)) (sym length_matrix) (survives_below code.layout disks)

-- ------------------------------------------------------------------
-- The judgement

-- What a plan wants, for a code and the loss of disks
abbrev pub wanted_by : LinearCode → List ℕ → Plan → ℕ → Bool
wanted_by code disks plan = wanted_of code.layout disks plan.wanted

-- gf2's acceptance of a plan's steps, for the matrix of a code and the loss of disks
abbrev pub AcceptedFor : LinearCode → List ℕ → Plan → Type 0
AcceptedFor code disks plan = Accepted (matrix code) (wanted_by code disks plan) (survives code.layout disks) (wanted_by code disks plan) (steps_of plan)

-- The rules for a plan's head and lists
pub record ListsGood (code : LinearCode) (disks : List ℕ) (plan : Plan) : Type 0 where
  pub head_fits : HeadFits code plan.head
  pub failed_good : GoodFailed code.layout plan.head.edition plan.failed
  pub failed_asked : plan.failed ≡ disks
  pub wanted_good : GoodWanted code.layout disks plan.head.edition plan.wanted

module _ (code : LinearCode) (within : WithinLimits code) (disks : List ℕ) (plan : Plan) where
  -- ------------------------------------------------------------------
  -- From the verdict to demand 2

  abbrev head_part : List Fault
  head_part = head_faults code.layout code.data_symbols plan.head

  abbrev failed_part : List Fault
  failed_part = failed_faults code.layout disks plan.head.edition plan.failed

  abbrev wanted_part : List Fault
  wanted_part = wanted_faults code.layout disks plan.head.edition plan.wanted

  -- A fine verdict on the head says that it fits, and that the lists are good
  pub head_fine : first_of (plan_faults code disks plan) ≡ Fine → ListsGood code disks plan
  head_fine e =
      let none = (fine_means_none_holds Fine (plan_faults code disks plan) e).1 in
      let first = none_holds_first (head_part ++ failed_part) wanted_part none in
      let failed = failed_if_fine code.layout disks plan.head.edition plan.failed (none_holds_second head_part failed_part first) in
      record {
        head_fits = head_fits_if_fine code plan.head (none_holds_first head_part failed_part first);
        failed_good = failed.0;
        failed_asked = failed.1;
        wanted_good = good_if_no_fault _ _ (lost code.layout disks) plan.wanted (λ position. 23 at position) (none_holds_second (head_part ++ failed_part) wanted_part none);
      }

  -- and the other way round
  fine_if_head : ListsGood code disks plan → first_of (plan_faults code disks plan) ≡ Fine
  fine_if_head good =
      none_holds_means_fine (plan_faults code disks plan)
      (none_holds_join (head_part ++ failed_part) wanted_part
      (none_holds_join head_part failed_part (head_fine_if_fits code plan.head good.head_fits)
      (failed_fine_if code.layout disks plan.head.edition plan.failed good.failed_good good.failed_asked))
      (no_fault_if_good _ _ (lost code.layout disks) plan.wanted (λ position. 23 at position) good.wanted_good))

  -- The sets that a plan with good lists is judged by
  pub sets_if_good : ListsGood code disks plan → SetsWithin (symbols code) (survives code.layout disks) (wanted_by code disks plan) (origin_of code.layout disks plan.head.edition)
  sets_if_good good =
      plan_sets code.layout within.height_from disks plan.head.edition
      (subst (GoodFailed code.layout plan.head.edition) good.failed_asked good.failed_good) plan.wanted good.wanted_good

  -- Wanted symbols are rows of the matrix
  wanted_rows : ListsGood code disks plan → PlacesBelow (length (matrix code)) (wanted_by code disks plan)
  wanted_rows good s is_wanted = matrix_lost_below code within disks s (wanted_is_lost code.layout disks plan.wanted good.wanted_good s is_wanted)

  -- A plan that gf2 accepts restores stripes of every symbol length
  restores_every_length : ListsGood code disks plan → AcceptedFor code disks plan → (L : ℕ)
      → RestoresStripes L code.data_symbols (matrix code) (survives code.layout disks) (wanted_by code disks plan) (steps_of plan)
  restores_every_length good accepted L =
      accepted_restores_stripes (matrix code) (wanted_by code disks plan) (survives code.layout disks) (wanted_by code disks plan) (steps_of plan)
      (wanted_rows good) (matrix_survives_below code within disks) accepted L code.data_symbols

  -- A plan whose head and lists are good, whose steps are formed, which gf2 accepts and whose stated count is true deserves acceptance
  pub deserves_if_rules_kept : ListsGood code disks plan → EachFormed (symbols code) plan.steps → AcceptedFor code disks plan
      → plan.head.reads ≡ true_read_count (symbols code) (survives code.layout disks) (steps_of plan) → Deserves code disks plan plan.head.reads
  deserves_if_rules_kept good each_formed accepted true_count =
      record {
        head_fits = good.head_fits;
        failed_good = good.failed_good;
        failed_asked = good.failed_asked;
        wanted_good = good.wanted_good;
        each_formed = each_formed;
        uses_known = accepted.uses_only_known;
        restores = λ L L-from L-to. restores_every_length good accepted L;
        stated_count = refl;
        true_count = sym true_count;
      }

  -- A fine verdict means that every rule is kept
  plan_fine : plan_verdict code disks plan ≡ Fine
      → ListsGood code disks plan
      × RulesKept code.rows (symbols code) (survives code.layout disks) (wanted_by code disks plan) plan.steps plan.head.reads
  unfolding plan_verdict body_verdict
  plan_fine e =
      let both = both_fine (first_of (plan_faults code disks plan)) _ e in
      let good = head_fine both.0 in
      (good, rules_kept_if_fine code.rows (symbols code) _ _ _ (sets_if_good good) plan.steps plan.head.reads both.1)

  -- An accepted plan keeps every rule of gf2's acceptance, for the code's matrix
  pub accepted_if_fine : plan_verdict code disks plan ≡ Fine → AcceptedFor code disks plan
  accepted_if_fine e = (plan_fine e).1.accepted

  -- A plan whose verdict is fine deserves acceptance
  pub deserves_if_fine : plan_verdict code disks plan ≡ Fine → Deserves code disks plan plan.head.reads
  deserves_if_fine e =
      let kept = plan_fine e in
      deserves_if_rules_kept kept.0 kept.1.each_formed kept.1.accepted kept.1.true_count

  -- ------------------------------------------------------------------
  -- What a plan whose verdict is fine leaves

  -- All symbols that are not wanted are kept
  abbrev pub kept_by : ℕ → Bool
  kept_by = kept_of code.layout disks plan.wanted

  module _ (fine : plan_verdict code disks plan ≡ Fine) where
    -- Survivors are kept
    survivors_kept : Within (survives code.layout disks) kept_by
    survivors_kept s alive = and_true_if_both (ltb s (symbols code)) _ (lt-ltb s (symbols code) (survives_below code.layout disks s alive)) (by_want (wanted_by code disks plan s) refl)
      where
        by_want : (asked : Bool) → wanted_by code disks plan s ≡ asked → not asked ≡ true
        by_want true e =
            absurd
            (true≢false
            (sym alive
            ∙ lost_means_not_surviving code.layout disks s
            (wanted_is_lost code.layout disks plan.wanted (plan_fine fine).0.wanted_good s e)))
        by_want false e = refl

    -- Each symbol is wanted, or kept and never written
    wanted_or_kept : (s : ℕ) → s < length (matrix code) → (wanted_by code disks plan s ≡ true) ⊎ ((kept_by s ≡ true) × (wanted_by code disks plan s ≡ false))
    wanted_or_kept s h = by_want (wanted_by code disks plan s) refl
      where
        by_want : (asked : Bool) → wanted_by code disks plan s ≡ asked → (wanted_by code disks plan s ≡ true) ⊎ ((kept_by s ≡ true) × (wanted_by code disks plan s ≡ false))
        by_want true e = inl e
        by_want false e = inr (and_true_if_both (ltb s (symbols code)) _ (lt-ltb s (symbols code) (omega (arith, length_matrix code within))) (ap not e), e)

    wanted_below : PlacesBelow (length (matrix code)) (wanted_by code disks plan)
    wanted_below = wanted_rows (plan_fine fine).0

    -- Run on a valid stripe with the wanted symbols ruined, it gives that stripe back
    pub gives_stripe_back_if_fine : (L : ℕ) (stripe x : List ℕ) → Valid L code.data_symbols (matrix code) stripe → length x ≡ length (matrix code) * L
        → SameSymbols L kept_by x stripe → run_on_stripe L (steps_of plan) x ≡ stripe
    gives_stripe_back_if_fine L stripe x valid x_length same =
        accepted_gives_stripe_back (matrix code) (wanted_by code disks plan) (survives code.layout disks) (wanted_by code disks plan) (steps_of plan)
        wanted_below (matrix_survives_below code within disks) (accepted_if_fine fine) kept_by survivors_kept wanted_or_kept L code.data_symbols stripe x valid x_length same

    -- It keeps all other symbols
    pub keeps_kept_if_fine : (L : ℕ) (x : List ℕ) → length x ≡ length (matrix code) * L → SameSymbols L kept_by (run_on_stripe L (steps_of plan) x) x
    keeps_kept_if_fine L x x_length s is_kept =
        run_on_stripe_keeps_unwritable (length (matrix code)) (accepted_if_fine fine).uses_only_known wanted_below (matrix_survives_below code within disks) L x x_length s
        (omega (arith, length_matrix code within, ltb-true s (symbols code) (and_left (ltb s (symbols code)) _ is_kept))) (not-true _ (and_right (ltb s (symbols code)) _ is_kept))

    -- and the stripe's length
    pub keeps_length_if_fine : (L : ℕ) (x : List ℕ) → length x ≡ length (matrix code) * L → length (run_on_stripe L (steps_of plan) x) ≡ length (matrix code) * L
    keeps_length_if_fine L x x_length =
        length_run_on_stripe L (length (matrix code)) (steps_of plan) x x_length
        (uses_only_known_names_below (length (matrix code)) wanted_below (accepted_if_fine fine).uses_only_known (matrix_survives_below code within disks))

    -- What it leaves at surviving and wanted symbols depends on the survivors alone
    pub depends_on_survivors_if_fine : (L : ℕ) (x y : List ℕ) → length x ≡ length (matrix code) * L → length y ≡ length (matrix code) * L
        → SameSymbols L (survives code.layout disks) x y
        → SameSymbols L (λ s. survives code.layout disks s || wanted_by code disks plan s) (run_on_stripe L (steps_of plan) x) (run_on_stripe L (steps_of plan) y)
    depends_on_survivors_if_fine L x y x_length y_length same =
        accepted_depends_on_known (matrix code) (wanted_by code disks plan) (survives code.layout disks) (wanted_by code disks plan) (steps_of plan)
        wanted_below (matrix_survives_below code within disks) (accepted_if_fine fine) L x y x_length y_length same

  -- ------------------------------------------------------------------
  -- From demand 2 to the verdict

  module _ (count : ℕ) (deserves : Deserves code disks plan count) where
    -- Its head and lists are good
    lists_good : ListsGood code disks plan
    lists_good = record { head_fits = deserves.head_fits; failed_good = deserves.failed_good; failed_asked = deserves.failed_asked; wanted_good = deserves.wanted_good }

    wanted_in_matrix : PlacesBelow (length (matrix code)) (wanted_by code disks plan)
    wanted_in_matrix = wanted_rows lists_good

    -- A plan that deserves acceptance is accepted by gf2's rules: it fills every wanted place, since one that is never filled can't come out right
    pub accepted_if_deserves : AcceptedFor code disks plan
    accepted_if_deserves =
        let alive = matrix_survives_below code within disks in
        accepted_if_restores_stripes (matrix code) (wanted_by code disks plan) (survives code.layout disks) (wanted_by code disks plan) (steps_of plan)
        wanted_in_matrix alive 1 code.data_symbols (omega arith) (matrix_below code within) deserves.uses_known
        (restores_means_filled (matrix code) (wanted_by code disks plan) (survives code.layout disks) (wanted_by code disks plan) (steps_of plan)
        wanted_in_matrix alive 1 code.data_symbols (omega arith) deserves.uses_known wanted_in_matrix (deserves.restores 1 (omega arith) (omega arith)))
        (deserves.restores 1 (omega arith) (omega arith))

    -- A plan that deserves acceptance restores stripes of every symbol length, also of those beyond document 01's limit
    pub deserving_restores_every_length : (L : ℕ)
        → RestoresStripes L code.data_symbols (matrix code) (survives code.layout disks) (wanted_by code disks plan) (steps_of plan)
    deserving_restores_every_length = restores_every_length lists_good accepted_if_deserves

    -- A plan that deserves acceptance has a fine verdict
    pub fine_if_deserves : plan_verdict code disks plan ≡ Fine
    unfolding plan_verdict body_verdict
    fine_if_deserves =
        fine_if_both (fine_if_head lists_good)
        (fine_if_rules_kept code.rows (symbols code) _ _ _ (sets_if_good lists_good) plan.steps plan.head.reads
        (record {
          each_formed = deserves.each_formed;
          accepted = accepted_if_deserves;
          true_count = deserves.stated_count ∙ sym deserves.true_count;
        }))
