-- Arrays of which one pattern alone tells what is gone: the one that shows on no survivor, by a test that is computed. Planning can then answer nothing but
-- this pattern. Assumes nothing.
use mathlib.Core.Path.{◌≡◌, refl, sym, ap, ◌∙◌, subst}
use mathlib.Core.Bool.{Bool, true, false, not, ◌&&◌, ◌||◌, true≢false}
use mathlib.Core.List.{List, [], ◌∷◌}
use mathlib.Core.Logic.{◌⊎◌, ⊎_elim, inl, inr}
use Prim.Native.Nat.{ℕ, ◌^◌, ◌<◌}
use native.Mathlib.Nat.{zero-add}
use native.Mathlib.Omega.{arith}
use lib.Dec.{eqb, ltb}
use lib.ListN.{length, get_or, replicate}
use borrow.Author.Tests.{eqb-true, eq-eqb}
use Rattle.bits.specs.BitSets.{overlap}
use Rattle.bits.specs.Lists.{first_from}
use Rattle.bits.proofs.Booleans.{bool_cases}
use Rattle.bits.proofs.OverlapLaws.{overlap_zero_left, even_if_not_odd}
use Rattle.bits.proofs.SearchLaws.{first_from_none, none_if_first_from_behind}
use Rattle.cases.proofs.ComputedTests.{first_failing, bytes_if_tested}
use Rattle.codes.specs.Codes.{LinearCode, symbols, matrix, WithinLimits}
use Rattle.code_sheets.specs.CodeReading.{reading}
use Rattle.code_sheets.proofs.ReadingLaws.{code_within_limits}
use Rattle.gf2.specs.Plans.{PlacesBelow}
use Rattle.gf2.specs.Stripes.{symbol, zero_stripe, SameSymbols}
use Rattle.gf2.proofs.StripeLaws.{symbol_pattern_stripe, symbol_zero_stripe}
use Rattle.plan_requests.specs.PlanRequests.{Asked, asked_symbols, planning_verdict}
use Rattle.planning.specs.Demand3.{stripe_of, GoodPattern, CannotBeRebuilt, GoneFor, Promised}
use Rattle.planning.specs.Planning.{Found, APlan, APatterns}
use Rattle.plans.specs.Judgement.{lost, survives}
use Rattle.plans.proofs.JudgementLaws.{length_matrix, matrix_below, matrix_survives_below, survives_below}
use Rattle.plans.proofs.PatternLaws.{zero_on_survivors, one_on_lost, not_zero_on_lost, no_plan_if_pattern_odd}
use Rattle.refusals.specs.Orders.{Fine, Answer, Gives, Refuses}
use Rattle.refusals.proofs.OrderLaws.{refused_is_not_fine}
use Rattle.spans.proofs.GoneLaws.{second_is_another}

-- ------------------------------------------------------------------
-- The test

-- A pattern shows on a survivor
abbrev shows : LinearCode → Asked → ℕ → ℕ → Bool
shows code asked pattern s = survives code.layout asked.disks s && eqb (overlap pattern (get_or (matrix code) s 0)) 1

-- It shows on none
abbrev pub hidden : LinearCode → Asked → ℕ → Bool
hidden code asked pattern = eqb (first_from (shows code asked pattern) 0 (symbols code)) (symbols code)

-- The first pattern besides 0 and this one that shows on none, or 2 to the K
abbrev pub first_other : LinearCode → Asked → ℕ → ℕ
first_other code asked answer =
    first_from (λ pattern. hidden code asked pattern && not (eqb pattern 0 || eqb pattern answer)) 0 (2 ^ code.data_symbols)

-- What is computed: this pattern shows on no survivor, but on a symbol that is lost and wanted; besides 0 no other shows on no survivor
pub record OnlyPattern (code : LinearCode) (asked : Asked) (pattern : ℕ) : Type 0 where
  pub bits : pattern < 2 ^ code.data_symbols
  pub is_hidden : hidden code asked pattern ≡ true
  pub shown_at : ℕ
  pub is_lost : lost code.layout asked.disks shown_at ≡ true
  pub is_wanted : asked_symbols code asked shown_at ≡ true
  pub is_odd : overlap pattern (get_or (matrix code) shown_at 0) ≡ 1
  pub no_other : first_other code asked pattern ≡ 2 ^ code.data_symbols

module _ (code : LinearCode) (within : WithinLimits code) (asked : Asked) where
  -- ------------------------------------------------------------------
  -- What the test says of a pattern's stripe

  -- Any pattern overlaps each row as its stripe tells
  overlap_told : (pattern s bit : ℕ) → s < symbols code → symbol 1 (stripe_of code pattern 1) s ≡ replicate 1 bit → overlap pattern (get_or (matrix code) s 0) ≡ bit
  overlap_told pattern s bit below told =
      ap (λ (l : List ℕ). get_or l 0 0)
      (sym (symbol_pattern_stripe 1 code.data_symbols (matrix code) pattern s (matrix_below code within) (omega (arith, length_matrix code within))) ∙ told)

  -- One that shows on no survivor is even on every surviving row
  even_if_hidden : (pattern : ℕ) → hidden code asked pattern ≡ true
      → (s : ℕ) → survives code.layout asked.disks s ≡ true → overlap pattern (get_or (matrix code) s 0) ≡ 0
  even_if_hidden pattern is_hidden s alive =
      even_if_not_odd pattern (get_or (matrix code) s 0)
      (subst (λ (c : Bool). (c && eqb (overlap pattern (get_or (matrix code) s 0)) 1) ≡ false) alive
      (none_if_first_from_behind (shows code asked pattern) (symbols code) 0 s
      (omega (arith, eqb-true (first_from (shows code asked pattern) 0 (symbols code)) (symbols code) is_hidden)) (omega arith)
      (omega (arith, survives_below code.layout asked.disks s alive))))

  -- One whose stripe is zero on every survivor shows on none
  hidden_if_zero : (pattern : ℕ)
      → ((L : ℕ) → SameSymbols L (survives code.layout asked.disks) (stripe_of code pattern L) (zero_stripe L (symbols code))) → hidden code asked pattern ≡ true
  hidden_if_zero pattern zero-there =
      eq-eqb (first_from (shows code asked pattern) 0 (symbols code)) (symbols code)
      (first_from_none (shows code asked pattern) (symbols code) 0
      (λ s from before_end.
      let below : s < symbols code = omega arith in
      bool_cases (λ c. survives code.layout asked.disks s ≡ c → (c && eqb (overlap pattern (get_or (matrix code) s 0)) 1) ≡ false)
      (λ alive.
      ap (λ (bit : ℕ). eqb bit 1)
      (overlap_told pattern s 0 below (zero-there 1 s alive ∙ symbol_zero_stripe 1 (symbols code) s below)))
      (λ gone. refl) (survives code.layout asked.disks s) refl)
      ∙ zero-add (symbols code))

  -- ------------------------------------------------------------------
  -- Where one pattern alone does, it rules every plan out, and is the only answer

  module _ (wanted_below : PlacesBelow (symbols code) (asked_symbols code asked)) (answer : ℕ) (only : OnlyPattern code asked answer) where
    pub cannot_if_only : CannotBeRebuilt code asked answer
    cannot_if_only =
        let even = even_if_hidden answer only.is_hidden in (
          (λ plan accepted.
              no_plan_if_pattern_odd code within asked.disks answer even only.shown_at only.is_lost only.is_odd plan
              (accepted.wants_exactly only.shown_at ∙ only.is_wanted) accepted.rules_kept),
          record {
            bits = only.bits;
            agrees_on_survivors = zero_on_survivors code within asked.disks answer even;
            shown_at = only.shown_at;
            shown_wanted = only.is_wanted;
            differs_there = not_zero_on_lost code within asked.disks answer even only.shown_at only.is_lost only.is_odd;
            ones_there = one_on_lost code within asked.disks answer even only.shown_at only.is_lost only.is_odd;
          },
        )

    -- What is zero on every survivor is 0 or this pattern
    zero_or_answer : (pattern : ℕ) → pattern < 2 ^ code.data_symbols
        → ((L : ℕ) → SameSymbols L (survives code.layout asked.disks) (stripe_of code pattern L) (zero_stripe L (symbols code)))
        → (pattern ≡ 0) ⊎ (pattern ≡ answer)
    zero_or_answer pattern below zero-there =
        by_zero (eqb pattern 0) refl
        (subst (λ (c : Bool). (c && not (eqb pattern 0 || eqb pattern answer)) ≡ false) (hidden_if_zero pattern zero-there)
        (none_if_first_from_behind (λ p. hidden code asked p && not (eqb p 0 || eqb p answer)) (2 ^ code.data_symbols) 0 pattern
        (omega (arith, only.no_other)) (omega arith) (omega arith)))
      where
        by_answer : (c : Bool) → eqb pattern answer ≡ c → not c ≡ false → (pattern ≡ 0) ⊎ (pattern ≡ answer)
        by_answer true q none = inr (eqb-true pattern answer q)
        by_answer false q none = absurd (true≢false none)

        by_zero : (c : Bool) → eqb pattern 0 ≡ c → not (c || eqb pattern answer) ≡ false → (pattern ≡ 0) ⊎ (pattern ≡ answer)
        by_zero true q none = inl (eqb-true pattern 0 q)
        by_zero false q none = by_answer (eqb pattern answer) refl none

    -- 0 shows on no wanted symbol
    not_pattern_0 : GoodPattern code asked 0 → ⊥
    not_pattern_0 good =
        let odd = overlap_told 0 good.shown_at 1 (wanted_below good.shown_at good.shown_wanted) (good.ones_there 1) in
        omega (arith, overlap_zero_left (get_or (matrix code) good.shown_at 0))

    good_is_answer : (pattern : ℕ) → GoodPattern code asked pattern → pattern ≡ answer
    good_is_answer pattern good =
        ⊎_elim (λ (q : pattern ≡ 0). absurd (not_pattern_0 (subst (GoodPattern code asked) q good))) (λ (q : pattern ≡ answer). q)
        (zero_or_answer pattern good.bits good.agrees_on_survivors)

    -- Patterns that tell what is gone, the first of them a good one, are this one alone
    answer_alone : (patterns : List ℕ) → GoodPattern code asked (get_or patterns 0 0) → GoneFor code asked patterns → patterns ≡ answer ∷ []
    answer_alone [] good gone = absurd (not_pattern_0 good)
    answer_alone (first ∷ []) good gone = ap (λ (p : ℕ). p ∷ []) (good_is_answer first good)
    answer_alone (first ∷ second ∷ more) good gone =
        let another =
        second_is_another code.data_symbols (matrix code) (matrix_below code within) (survives code.layout asked.disks) (asked_symbols code asked)
        (matrix_survives_below code within asked.disks) (subst (λ (n : ℕ). PlacesBelow n (asked_symbols code asked)) (sym (length_matrix code within)) wanted_below)
        first second more gone in
        absurd
        (⊎_elim another.0 (λ (q : second ≡ answer). another.1 (q ∙ sym (good_is_answer first good)))
        (zero_or_answer second (gone.bits 1 (omega arith))
        (λ L.
        subst (λ (n : ℕ). SameSymbols L (survives code.layout asked.disks) (stripe_of code second L) (zero_stripe L n)) (length_matrix code within)
        (gone.zero_on_survivors 1 (omega arith) L))))

-- ------------------------------------------------------------------
-- By code sheet

-- A sheet whose every byte is one, and which is read without a refusal, has a code within the limits
pub within_if_read : (code_sheet : List ℕ) → first_failing (λ byte. ltb byte 256) code_sheet ≡ length code_sheet → (reading code_sheet).verdict ≡ Fine
    → WithinLimits (reading code_sheet).code
within_if_read code_sheet all_bytes fine = code_within_limits code_sheet (bytes_if_tested code_sheet all_bytes) fine

-- So planning for a code sheet, where it refuses nothing, answers this pattern alone
pub planned_as_only : (code_sheet : List ℕ) (within : WithinLimits (reading code_sheet).code) (asked : Asked)
    → PlacesBelow (symbols (reading code_sheet).code) (asked_symbols (reading code_sheet).code asked) → (answer : ℕ) → OnlyPattern (reading code_sheet).code asked answer
    → (before after : List ℕ) (given : Answer Found) → planning_verdict code_sheet asked (length before) ≡ Fine → Promised code_sheet asked before after given
    → given ≡ Gives (APatterns (answer ∷ []))
planned_as_only code_sheet within asked wanted_below answer only before after (Gives (APlan size reads)) fine promised =
    let some = (promised.exactly fine).0 tt in
    absurd ((cannot_if_only (reading code_sheet).code within asked wanted_below answer only).0 some.plan some.accepted)
planned_as_only code_sheet within asked wanted_below answer only before after (Gives (APatterns patterns)) fine promised =
    ap (λ (l : List ℕ). Gives (APatterns l))
    (answer_alone (reading code_sheet).code within asked wanted_below answer only patterns promised.demand3.1 promised.gone)
planned_as_only code_sheet within asked wanted_below answer only before after (Refuses refusal) fine promised =
    absurd (refused_is_not_fine (promised.refusal ∙ fine))
