-- What the place of refusal 21 says: the symbol that it names is the lowest that comes out wrong, and the data symbol the lowest whose stripe shows it.
-- Assumes nothing.
use mathlib.Core.Path.{◌≡◌, refl, sym, ap, ap₂, ◌∙◌, subst}
use mathlib.Core.Bool.{Bool, true, false, not, ◌&&◌, true≢false}
use mathlib.Core.List.{List, [], ◌∷◌, map}
use Prim.Native.Nat.{ℕ, suc, ◌+◌, ◌-◌, ◌*◌, ◌/◌, ◌%◌, ◌^◌, ◌≤◌, ◌<◌}
use native.Mathlib.Omega.{arith}
use lib.Dec.{eqb, ltb}
use lib.ListN.{length, get_or, replicate, get_or-replicate}
use lib.Seq.{get_or-take}
use borrow.Author.Tests.{lt-ltb, ltb-true, ltb-false, eq-eqb, eqb-true, not-false}
use Rattle.bits.specs.BitSets.{overlap}
use Rattle.bits.specs.Numerals.{set_width, first_difference}
use Rattle.bits.proofs.Booleans.{and_left, and_right, and_true_if_both}
use Rattle.bits.proofs.DifferenceLaws.{alike_below_difference, difference_below, apart_at_difference}
use Rattle.bits.proofs.SearchLaws.{first_from_holds, none_before_first_from}
use Rattle.codes.specs.Codes.{LinearCode, symbols, matrix, WithinLimits}
use Rattle.gf2.specs.Plans.{run, PlacesBelow, extend, filled_after, UsesOnlyKnown, Accepted}
use Rattle.gf2.specs.Stripes.{symbol, Valid, run_on_stripe}
use Rattle.gf2.specs.declared.Step.{Step}
use Rattle.gf2.proofs.PlanLaws.{run_below}
use Rattle.gf2.proofs.StripeLaws.{accepted_restores_stripes, symbol_pattern_stripe, symbol_run_on_pattern}
use Rattle.code_sheets.specs.CodeReading.{code_faults, code_verdict, reading}
use Rattle.plan_sheets.specs.PlanSheets.{Plan, step_of, steps_of, head_in, plan_in}
use Rattle.plan_sheets.specs.declared.step.SheetStep.{SheetStep}
use Rattle.refusals.specs.Orders.{Fault, ◌gets◌, or_if, first_of, if_fine, Outcome, Fine, Refused, Refuses}
use Rattle.refusals.specs.Refusals.{◌at◌}
use Rattle.refusals.proofs.OrderLaws.{refused_is_not_fine, same_refusal, refused_before}
use Rattle.plans.specs.Judgement.{survives, step_faults, steps_verdict, never_filled, ends_wrong, lowest_wanted, lowest_off, places_per_row, end_order, end_faults, SetsWithin, judgement, origin_of, body_verdict}
use Rattle.plans.specs.Check.{sheet_faults, judged, check_verdict, checked}
use Rattle.plans.specs.WhatIsOff.{SurvivorsHold, single_stripe, ComesOutRight, ComesOutWrong, Off, WhatIsOff}
use Rattle.plans.proofs.JudgementLaws.{wanted_by, ListsGood, uses_only_known_if_fine, none_wanted_if_none_lowest, run_on_symbols, sets_if_good, length_matrix, matrix_below, matrix_survives_below, head_fine}
use Rattle.plans.proofs.CheckLaws.{fits_if_fine, refused_if_answered, head_verdict}

-- ------------------------------------------------------------------
-- 21 comes of the end

-- No step is refused with 21
steps_never_21 : (count : ℕ) (wanted known : ℕ → Bool) (number place : ℕ) (steps : List SheetStep)
    → steps_verdict count wanted known number steps ≡ Refused (21 at place) → ⊥
unfolding steps_verdict
steps_never_21 count wanted known number place [] e = refused_is_not_fine (sym e)
steps_never_21 count wanted known number place (s ∷ steps) e =
    by_here (first_of faults) refl e (steps_never_21 count wanted (extend known s.target) (suc number) place steps)
  where
    faults : List Fault
    faults = step_faults count wanted known number s

    behind : Outcome
    behind = steps_verdict count wanted (extend known s.target) (suc number) steps

    by_here : (here : Outcome) → first_of faults ≡ here → if_fine here behind here ≡ Refused (21 at place) → (behind ≡ Refused (21 at place) → ⊥) → ⊥
    by_here Fine q told never = never told
    by_here (Refused refusal) q told never = refused_is_not_fine (sym (refused_before 21 place Fine faults refl (q ∙ told)))

-- What 21 says of the order behind the steps: nothing is unfilled, a symbol ends wrong, and the place is its row and data symbol
end_refused_21 : (count origin unfilled wrong off stated true_count place : ℕ) → first_of (end_order count origin unfilled wrong off stated true_count) ≡ Refused (21 at place)
    → (count ≤ unfilled) × (wrong < count) × (place ≡ (wrong - origin) * places_per_row + off)
end_refused_21 count origin unfilled wrong off stated true_count place e =
    by_tests (ltb unfilled count) (ltb wrong count) refl refl
    (refused_before 21 place _ ((not (eqb stated true_count) gets 22 at true_count) ∷ []) refl e)
  where
    by_tests : (a b : Bool) → ltb unfilled count ≡ a → ltb wrong count ≡ b
        → or_if (or_if Fine a (20 at unfilled - origin)) b (21 at (wrong - origin) * places_per_row + off) ≡ Refused (21 at place)
        → (count ≤ unfilled) × (wrong < count) × (place ≡ (wrong - origin) * places_per_row + off)
    by_tests true b p q told = absurd (omega (arith, (same_refusal {number = 20} {other = 21} told).0))
    by_tests false true p q told = (ltb-false unfilled count p, ltb-true wrong count q, sym (same_refusal {number = 21} {other = 21} told).1)
    by_tests false false p q told = absurd (refused_is_not_fine (sym told))

-- ------------------------------------------------------------------
-- The judgement by sets

-- What 21 says of steps judged by sets
record EndsOff (rows : List ℕ) (count : ℕ) (alive wanted : ℕ → Bool) (origin : ℕ) (steps : List Step) (place s : ℕ) : Type 0 where
  uses_only_known : UsesOnlyKnown wanted alive steps
  filled : (t : ℕ) → wanted t ≡ true → filled_after alive steps t ≡ true
  is_wanted : wanted s ≡ true
  wrong : get_or (run steps rows) s 0 ≡ get_or rows s 0 → ⊥
  earlier : (t : ℕ) → t < s → wanted t ≡ true → get_or (run steps rows) t 0 ≡ get_or rows t 0
  place_is : place ≡ (s - origin) * places_per_row + lowest_off rows steps s

ends_off_if_refused : (rows : List ℕ) (count : ℕ) (alive wanted : ℕ → Bool) (origin : ℕ) → SetsWithin count alive wanted origin → (steps : List SheetStep) (stated place : ℕ)
    → judgement rows count alive wanted origin steps stated ≡ Refused (21 at place)
    → EndsOff rows count alive wanted origin (map step_of steps) place (lowest_wanted count wanted (ends_wrong rows (map step_of steps)))
unfolding judgement
ends_off_if_refused rows count alive wanted origin sets steps stated place e = by_steps (steps_verdict count wanted alive 0 steps) refl e
  where
    ran : List Step
    ran = map step_of steps

    test : ℕ → Bool
    test t = wanted t && ends_wrong rows ran t

    by_steps : (v : Outcome) → steps_verdict count wanted alive 0 steps ≡ v → if_fine v (first_of (end_faults rows count alive wanted origin ran stated)) v ≡ Refused (21 at place)
        → EndsOff rows count alive wanted origin ran place (lowest_wanted count wanted (ends_wrong rows ran))
    by_steps (Refused refusal) q told = absurd (steps_never_21 count wanted alive 0 place steps (q ∙ told))
    by_steps Fine q told =
        let s = lowest_wanted count wanted (ends_wrong rows ran) in
        let said = end_refused_21 count origin (lowest_wanted count wanted (never_filled alive ran)) s (lowest_off rows ran s) stated _ place told in
        let here = first_from_holds test count 0 (omega (arith, said.1)) in
        record {
          uses_only_known = uses_only_known_if_fine count wanted alive 0 steps q;
          filled = λ t wanted_t. not-false _ (none_wanted_if_none_lowest count wanted sets.wanted_below (never_filled alive ran) said.0 t wanted_t);
          is_wanted = and_left (wanted s) (ends_wrong rows ran s) here;
          wrong = λ same. true≢false (sym (and_right (wanted s) (ends_wrong rows ran s) here) ∙ ap not (eq-eqb _ _ same));
          earlier =
              λ t before wanted_t.
              eqb-true _ _ (not-false _ (sym (ap (λ (c : Bool). c && ends_wrong rows ran t) wanted_t) ∙ none_before_first_from test count 0 t (omega arith) before));
          place_is = said.2;
        }

-- ------------------------------------------------------------------
-- A plan

module _ (code : LinearCode) (within : WithinLimits code) (disks : List ℕ) (plan : Plan) (good : ListsGood code disks plan) where
  abbrev wanted : ℕ → Bool
  wanted = wanted_by code disks plan

  abbrev alive : ℕ → Bool
  alive = survives code.layout disks

  abbrev steps : List Step
  steps = steps_of plan

  sets : SetsWithin (symbols code) alive wanted (origin_of code.layout disks plan.head.edition)
  sets = sets_if_good code within disks plan good

  rows_counted : length (matrix code) ≡ symbols code
  rows_counted = length_matrix code within

  wanted_rows : PlacesBelow (length (matrix code)) wanted
  wanted_rows = subst (λ (n : ℕ). PlacesBelow n wanted) (sym rows_counted) sets.wanted_below

  surviving_rows : PlacesBelow (length (matrix code)) alive
  surviving_rows = matrix_survives_below code within disks

  -- The place of 21 says what is off
  pub off_if_body_refused : (place : ℕ) → body_verdict code disks plan ≡ Refused (21 at place) → WhatIsOff code disks plan place
  unfolding body_verdict
  off_if_body_refused place e =
      subst (λ (u : ℕ). Off code disks plan u (place % places_per_row)) symbol_is
      (subst (Off code disks plan s) data_symbol_is
      (record {
        symbol_wanted = ends.is_wanted;
        data_symbol_below = off_below;
        earlier_right = earlier_right;
        lower_right = lower_right;
        comes_out_wrong = comes_out_wrong;
      }))
    where
      s : ℕ
      s = lowest_wanted (symbols code) wanted (ends_wrong code.rows steps)

      ends : EndsOff code.rows (symbols code) alive wanted (origin_of code.layout disks plan.head.edition) steps place s
      ends = ends_off_if_refused code.rows (symbols code) alive wanted (origin_of code.layout disks plan.head.edition) sets plan.steps plan.head.reads place e

      -- The row that the steps make of a symbol, and its own
      made : ℕ → ℕ
      made t = get_or (run steps (matrix code)) t 0

      own : ℕ → ℕ
      own t = get_or (matrix code) t 0

      made_is : (t : ℕ) → wanted t ≡ true → made t ≡ get_or (run steps code.rows) t 0
      made_is t is_wanted =
          run_on_symbols code.rows (symbols code) alive wanted (origin_of code.layout disks plan.head.edition) sets plan.steps plan.head.reads ends.uses_only_known t (sets.wanted_below t is_wanted)

      own_is : (t : ℕ) → wanted t ≡ true → own t ≡ get_or code.rows t 0
      own_is t is_wanted = get_or-take (symbols code) code.rows t 0 (sets.wanted_below t is_wanted)

      -- Both have K bits, and they aren't equal
      fits : code.data_symbols ≤ set_width
      fits = omega (arith, within.data_to)

      made_below : made s < 2 ^ code.data_symbols
      made_below = run_below code.data_symbols steps (matrix code) (matrix_below code within) s

      own_below : own s < 2 ^ code.data_symbols
      own_below = matrix_below code within s

      apart : made s ≡ own s → ⊥
      apart same = ends.wrong (sym (made_is s ends.is_wanted) ∙ same ∙ own_is s ends.is_wanted)

      -- The data symbol in which they differ first
      off : ℕ
      off = first_difference (made s) (own s)

      off_below : off < code.data_symbols
      off_below = difference_below code.data_symbols (made s) (own s) fits made_below own_below apart

      -- The place in its parts
      place_is : place ≡ (s - origin_of code.layout disks plan.head.edition) * places_per_row + off
      place_is = ends.place_is ∙ ap (λ (d : ℕ). (s - origin_of code.layout disks plan.head.edition) * places_per_row + d) (sym (ap₂ first_difference (made_is s ends.is_wanted) (own_is s ends.is_wanted)))

      data_symbol_is : off ≡ place % places_per_row
      data_symbol_is = omega (arith, place_is, off_below, within.data_to)

      symbol_is : s ≡ origin_of code.layout disks plan.head.edition + place / places_per_row
      symbol_is = omega (arith, place_is, off_below, within.data_to, sets.wanted_from s ends.is_wanted)

      -- The symbols before it
      before : ℕ → Bool
      before t = wanted t && ltb t s

      accepted_before : Accepted (matrix code) wanted alive before steps
      accepted_before =
          record {
            uses_only_known = ends.uses_only_known;
            filled = λ t both. ends.filled t (and_left (wanted t) (ltb t s) both);
            right =
                λ t both.
                let is_wanted = and_left (wanted t) (ltb t s) both in
                made_is t is_wanted ∙ ends.earlier t (ltb-true t s (and_right (wanted t) (ltb t s) both)) is_wanted ∙ sym (own_is t is_wanted);
          }

      whole : {L : ℕ} {stripe x : List ℕ} → SurvivorsHold code disks L stripe x → length x ≡ length (matrix code) * L
      whole {L} holds = holds.whole ∙ ap (λ (n : ℕ). n * L) (sym rows_counted)

      earlier_right : (t : ℕ) → t < s → wanted t ≡ true → (L : ℕ) (stripe : List ℕ) → Valid L code.data_symbols (matrix code) stripe → ComesOutRight code disks plan t L stripe
      earlier_right t earlier is_wanted L stripe valid x holds =
          accepted_restores_stripes (matrix code) wanted alive before steps wanted_rows surviving_rows accepted_before L code.data_symbols stripe x valid
          (whole holds) holds.bytes holds.same_survivors t (and_true_if_both (wanted t) (ltb t s) is_wanted (lt-ltb t s earlier))

      -- What comes out of the stripe of a data symbol, and what should
      comes_out : (t L : ℕ) (x : List ℕ) → SurvivorsHold code disks L (single_stripe code t L) x → symbol L (run_on_stripe L steps x) s ≡ replicate L (overlap (2 ^ t) (made s))
      comes_out t L x holds =
          symbol_run_on_pattern (matrix code) ends.uses_only_known wanted_rows surviving_rows L code.data_symbols (matrix_below code within) (2 ^ t) x
          (whole holds) holds.same_survivors s (ends.filled s ends.is_wanted)

      should_be : (t L : ℕ) → symbol L (single_stripe code t L) s ≡ replicate L (overlap (2 ^ t) (own s))
      should_be t L = symbol_pattern_stripe L code.data_symbols (matrix code) (2 ^ t) s (matrix_below code within) (wanted_rows s ends.is_wanted)

      lower_right : (t : ℕ) → t < off → (L : ℕ) → ComesOutRight code disks plan s L (single_stripe code t L)
      lower_right t lower L x holds = comes_out t L x holds ∙ ap (replicate L) (alike_below_difference (made s) (own s) t lower) ∙ sym (should_be t L)

      comes_out_wrong : (L : ℕ) → 1 ≤ L → ComesOutWrong code disks plan s L (single_stripe code off L)
      comes_out_wrong L L-from x holds same =
          let shown : replicate L (overlap (2 ^ off) (made s)) ≡ replicate L (overlap (2 ^ off) (own s)) = sym (comes_out off L x holds) ∙ same ∙ should_be off L in
          apart_at_difference code.data_symbols (made s) (own s) fits made_below own_below apart
          (sym (get_or-replicate L 0 (overlap (2 ^ off) (made s)) 0 L-from) ∙ ap (λ (l : List ℕ). get_or l 0 0) shown ∙ get_or-replicate L 0 (overlap (2 ^ off) (own s)) 0 L-from)

-- ------------------------------------------------------------------
-- The sheets

-- No code sheet is refused with 21
code_never_21 : (code_sheet : List ℕ) (place : ℕ) → (reading code_sheet).verdict ≡ Refused (21 at place) → ⊥
unfolding reading code_verdict
code_never_21 code_sheet place e = refused_is_not_fine (sym (refused_before 21 place Fine (code_faults code_sheet) refl e))

-- Where checking answers 21, its place says what is off
pub off_if_refused : (code_sheet disks plan_sheet : List ℕ) → ((reading code_sheet).verdict ≡ Fine → WithinLimits (reading code_sheet).code)
    → (place : ℕ) → checked code_sheet disks plan_sheet ≡ Refuses (21 at place) → WhatIsOff (reading code_sheet).code disks (plan_in plan_sheet) place
unfolding checked judged
off_if_refused code_sheet disks plan_sheet limits place e =
    by_head (head_verdict (reading code_sheet) disks plan_sheet) refl (refused_if_answered (check_verdict code_sheet disks plan_sheet) (head_in plan_sheet).reads (21 at place) e)
  where
    code : LinearCode
    code = (reading code_sheet).code

    by_head : (head : Outcome) → head_verdict (reading code_sheet) disks plan_sheet ≡ head
        → if_fine head (body_verdict code disks (plan_in plan_sheet)) head ≡ Refused (21 at place) → WhatIsOff code disks (plan_in plan_sheet) place
    by_head Fine q told =
        let fits = fits_if_fine (reading code_sheet) disks plan_sheet q in
        let within = limits fits.code_good in
        off_if_body_refused code within disks (plan_in plan_sheet) (head_fine code within disks (plan_in plan_sheet) fits.head_fine) place told
    by_head (Refused refusal) q told =
        absurd
        (code_never_21 code_sheet place
        (refused_before 21 place (reading code_sheet).verdict (sheet_faults code.layout code.data_symbols disks plan_sheet) refl (q ∙ told)))
