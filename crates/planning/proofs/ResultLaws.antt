-- What solving gave for a code is what the laws of planning speak of. Assumes nothing.
use mathlib.Core.Path.{◌≡◌, refl, sym, ap, ◌∙◌, subst, fun_ext}
use mathlib.Core.Bool.{Bool, true, false, cond, true≢false}
use mathlib.Core.List.{List, [], ◌∷◌, Memᴰ}
use Prim.Native.Nat.{ℕ, ◌+◌, ◌^◌, ◌≤◌, ◌<◌}
use native.Mathlib.Decide.{dec_lt}
use native.Mathlib.Omega.{arith}
use lib.Dec.{eqb}
use lib.ListN.{length, get_or}
use borrow.Author.Tests.{ltb-true, eqb-true}
use Rattle.bits.specs.BitSets.{has}
use Rattle.bits.specs.Numerals.{set_width, padded}
use Rattle.bits.proofs.ListLaws.{get_or_tabulate_behind}
use Rattle.bits.proofs.SetLaws.{has_empty}
use Rattle.bits.proofs.PaddedLaws.{get_or_padded}
use Rattle.codes.specs.Codes.{LinearCode, symbols, matrix}
use Rattle.codes.proofs.LayoutLaws.{height_of_at_most}
use Rattle.codes.proofs.LimitLaws.{layout_within}
use Rattle.gf2.specs.Plans.{Within}
use Rattle.gf2.specs.Selection.{select}
use Rattle.gf2.specs.declared.Step.{Step}
use Rattle.gf2.proofs.SubsetPlanLaws.{plan_of_same}
use Rattle.plan_sheets.specs.PlanSheets.{list_from, sections_for, head_length}
use Rattle.plan_sheets.specs.InnerPlanSheets.{EditionFits, First, Second, Third, sections_of, subset_plan, source_count, PlanFits}
use Rattle.plans.specs.Judgement.{survives, lost_count}
use Rattle.plans.proofs.JudgementLaws.{lost_below, lost_at_most}
use Rattle.refusals.specs.Orders.{Answer, Gives, Refuses}
use Rattle.sheets.specs.Buffers.{at_front}
use Rattle.solve.specs.InnerSolving.{wanted_subsets}
use Rattle.solve.proofs.RowLaws.{get_or_subsets, subsets_below}
use Rattle.plan_requests.specs.PlanRequests.{Asked, asked_symbols, least_buffer}
use Rattle.planning.specs.Planning.{Found, APlan, APatterns}
use Rattle.planning.specs.InnerWork.{Workable, RightSets, RightSteps, SheetWritten, sheet_of, SubsetsFound, PatternsLost, Chosen, PatternsFrom, WorkedFrom, Worked}
use Rattle.planning.proofs.StripLaws.{lost_of_one}
use Rattle.planning.proofs.WorkLaws.{targets, known_rows, pivots_from, pattern_found_by, subset_from, steps_from, asked_is_lost, target_wanted, shown_rules_plans_out, right_if_sums, known_counted, subset_alive, subset_sums, steps_right_from, patterns_from}

-- The least buffer has room for a head and 1,024 steps
head_room : (edition : ℕ) (disks list : List ℕ) → length disks ≤ 64 → length list ≤ 64 → (edition ≡ 2 → length list ≤ 32)
    → head_length (sections_of edition disks list) + 3072 ≤ least_buffer edition
unfolding sections_for
head_room edition disks list few_disks few fewer = by_edition (eqb edition 3) (eqb edition 2) refl
  where
    by_edition : (third second : Bool) → eqb edition 2 ≡ second
        → head_length (cond third (record { failed = list_from 7 (length disks); wanted = list_from (8 + length disks) (length list) }) (record { failed = list_from 5 1; wanted = cond second (list_from 8 (length list)) (list_from 7 0) })) + 3072
        ≤ cond third 3210 (cond second 3114 3081)
    by_edition true second e = omega arith
    by_edition false true e = omega (arith, fewer (eqb-true edition 2 e))
    by_edition false false e = omega arith

-- A list of one entry is that entry
one_entry : (list : List ℕ) → length list ≡ 1 → list ≡ get_or list 0 0 ∷ []
one_entry [] e = absurd (omega arith)
one_entry (entry ∷ []) e = refl
one_entry (entry ∷ (other ∷ list)) e = absurd (omega arith)

module _ (code : LinearCode) (asked : Asked) {room : ℕ} (workable : Workable code asked room) where
  -- Each number listed can be in a set
  pub listed_small : (i : ℕ) → i < length asked.wanted → get_or asked.wanted i 0 < set_width
  listed_small i h = omega (arith, lost_below code.layout asked.disks _ (workable.list_good.each_allowed i h), workable.within.symbols_to)

  -- No symbol behind the last is wanted
  not_wanted_behind : (t : ℕ) → symbols code ≤ t → asked_symbols code asked t ≡ false
  not_wanted_behind t behind = by_wish (asked_symbols code asked t) refl
    where
      by_wish : (c : Bool) → asked_symbols code asked t ≡ c → c ≡ false
      by_wish true is_wanted = absurd (omega (arith, lost_below code.layout asked.disks t (asked_is_lost code asked workable t is_wanted), behind))
      by_wish false q = refl

  -- Each disk is one of the array's
  pub disks_below : (i : ℕ) → i < length asked.disks → get_or asked.disks i 0 < code.layout.disks
  disks_below i h = ltb-true _ _ (workable.disks_good.each_allowed i h)

  -- No more symbols are listed than the edition's buffer has room for
  few_listed : length asked.wanted ≤ 64
  few_listed = by_edition (eqb asked.edition 1) workable.list_good.count_to
    where
      by_edition : (first : Bool) → length asked.wanted ≤ cond first 0 (lost_count code.layout asked.disks) → length asked.wanted ≤ 64
      by_edition true h = omega arith
      by_edition false h = omega (arith, lost_at_most code.layout asked.disks, workable.within.symbols_to)

  fewer_listed : asked.edition ≡ 2 → length asked.wanted ≤ 32
  fewer_listed second = by_edition workable.edition_fits
    where
      by_edition : EditionFits asked.edition asked.disks asked.wanted → length asked.wanted ≤ 32
      by_edition (First e one none) = absurd (omega (arith, e))
      by_edition (Second e one) =
          let disk = get_or asked.disks 0 0 in
          let listed : length asked.wanted ≤ lost_count code.layout asked.disks =
          subst (λ (n : ℕ). length asked.wanted ≤ cond (eqb n 1) 0 (lost_count code.layout asked.disks)) e workable.list_good.count_to in
          let rows = ap (lost_count code.layout) (one_entry asked.disks one) ∙ lost_of_one code.layout workable.within.height_from disk (disks_below 0 (omega arith)) in
          omega (arith, listed, rows, height_of_at_most code.layout disk workable.within.height_to)
      by_edition (Third e) = absurd (omega (arith, e))

  -- ------------------------------------------------------------------
  -- A plan from sets of survivors, one a symbol, whichever they are

  -- Where each wanted symbol's set sums to its row, the steps keep every rule of the check
  pub sets_steps_right : (wanted : ℕ) (sets : List ℕ) → ((s : ℕ) → has wanted s ≡ asked_symbols code asked s) → RightSets code asked sets
      → RightSteps code asked (source_count (symbols code) (subset_plan (symbols code) (has wanted) sets)) (subset_plan (symbols code) (has wanted) sets)
  sets_steps_right wanted sets wanted_are right =
      subst (λ (set : ℕ → Bool). RightSteps code asked (source_count (symbols code) (subset_plan (symbols code) set sets)) (subset_plan (symbols code) set sets))
      (sym (fun_ext wanted_are)) (right_if_sums code asked workable (λ t. get_or sets t 0) right.below right.alive right.sums)

  module _ (wanted : ℕ) (sets : List ℕ) (below : (t : ℕ) → get_or sets t 0 < 2 ^ symbols code) where
    module _ (right : RightSteps code asked (source_count (symbols code) (subset_plan (symbols code) (has wanted) sets)) (subset_plan (symbols code) (has wanted) sets)) where
      -- They fit the sheet and the buffer
      pub fits_if_right : PlanFits asked.edition code.layout code.data_symbols asked.disks asked.wanted (has wanted) sets room
      fits_if_right =
          let within = workable.within in
          let few_disks : length asked.disks ≤ 64 = omega (arith, workable.disks_good.count_to, within.disks_to) in
          record {
            edition_fits = workable.edition_fits;
            layout_within = layout_within code within;
            data_to = omega (arith, within.data_to);
            failed_to = omega (arith, few_disks);
            list_to = omega (arith, few_listed);
            subsets_below = below;
            steps_fit = right.fit;
            room = omega (arith, right.fit, head_room asked.edition asked.disks asked.wanted few_disks few_listed fewer_listed, workable.room);
          }

      -- A sheet written from them is a good plan's
      abbrev pub written_if_right : {sheet_bytes reads : ℕ} {before after : List ℕ} → reads ≡ source_count (symbols code) (subset_plan (symbols code) (has wanted) sets)
          → sheet_bytes ≡ length (sheet_of code asked reads (subset_plan (symbols code) (has wanted) sets))
          → after ≡ at_front (sheet_of code asked reads (subset_plan (symbols code) (has wanted) sets)) before
          → SheetWritten code asked sheet_bytes reads before after
      written_if_right reads_are length_is first_sheet =
          record {
            steps = subset_plan (symbols code) (has wanted) sets;
            right = subst (λ (count : ℕ). RightSteps code asked count (subset_plan (symbols code) (has wanted) sets)) (sym reads_are) right;
            length_is = length_is;
            sheet_first = first_sheet;
          }

  module _ (known wanted : ℕ) (chosen : Chosen code asked (has wanted) (has known)) where
    wanted_are : has wanted ≡ asked_symbols code asked
    wanted_are = fun_ext chosen.wanted_are

    -- Patterns answered tell what is gone
    pub worked_patterns : {lost : List ℕ} → PatternsLost code (has known) (has wanted) lost → (before : List ℕ)
        → WorkedFrom code asked (has known) before before (Gives (APatterns lost))
    worked_patterns {lost} given before =
        let told = subst (λ (set : ℕ → Bool). PatternsLost code (has known) set lost) wanted_are given in (
          subst (PatternsFrom code asked (has known)) (sym told.are) (patterns_from code asked workable (has known) chosen.known_survive told.some_odd),
          refl,
        )

    module _ {solved subsets : List ℕ} (given : SubsetsFound code (has known) (has wanted) solved) (subsets_are : subsets ≡ padded solved) where
      told_subsets : SubsetsFound code (has known) (asked_symbols code asked) solved
      told_subsets = subst (λ (set : ℕ → Bool). SubsetsFound code (has known) set solved) wanted_are given

      -- No pattern is odd on a wanted row
      none_found : pattern_found_by code asked (has known) ≡ 0
      none_found = told_subsets.none_odd

      -- The subsets as the laws speak of them
      abbrev as_solved : List ℕ
      as_solved = wanted_subsets (pivots_from code (has known)) (known_rows code (has known)) (matrix code) (symbols code) (asked_symbols code asked)

      are_solved : (t : ℕ) → get_or subsets t 0 ≡ get_or as_solved t 0
      are_solved t = ap (λ (l : List ℕ). get_or l t 0) (subsets_are ∙ ap padded told_subsets.are) ∙ get_or_padded as_solved t

      -- The steps from the subsets are elimination's
      pub steps_are : subset_plan (symbols code) (has wanted) subsets ≡ steps_from code asked (has known)
      steps_are =
          ap (λ (set : ℕ → Bool). subset_plan (symbols code) set subsets) (fun_ext chosen.wanted_are)
          ∙ plan_of_same (λ t. get_or subsets t 0) (subset_from code (has known)) (symbols code) (targets code asked) same
        where
          same : (t : ℕ) → Memᴰ t (targets code asked) → get_or subsets t 0 ≡ subset_from code (has known) t
          same t m =
              let is_wanted = target_wanted code asked workable t m in
              are_solved t
              ∙ get_or_subsets (pivots_from code (has known)) (known_rows code (has known)) (matrix code) (symbols code) (asked_symbols code asked) t
              (lost_below code.layout asked.disks t (asked_is_lost code asked workable t is_wanted))
              ∙ ap (λ (c : Bool). cond c (subset_from code (has known) t) 0) is_wanted

      -- They keep every rule of the check
      subset_steps_right : RightSteps code asked (source_count (symbols code) (subset_plan (symbols code) (has wanted) subsets)) (subset_plan (symbols code) (has wanted) subsets)
      subset_steps_right =
          subst (λ (plan : List Step). RightSteps code asked (source_count (symbols code) plan) plan) (sym steps_are)
          (steps_right_from code asked workable (has known) chosen.known_survive none_found)

      -- The subsets are of the array's symbols
      are_below : (t : ℕ) → get_or subsets t 0 < 2 ^ symbols code
      are_below t =
          subst (λ (subset : ℕ). subset < 2 ^ symbols code) (sym (are_solved t))
          (subst (λ (m : ℕ). get_or as_solved t 0 < 2 ^ m) (known_counted code asked workable (has known) chosen.known_survive)
          (subsets_below (pivots_from code (has known)) (known_rows code (has known)) (matrix code) (symbols code) (asked_symbols code asked) t))

      -- They are sets of survivors that sum to the wanted rows
      pub solved_right : RightSets code asked subsets
      solved_right =
          record {
            below = are_below;
            alive = λ t. (by_wish t (asked_symbols code asked t) refl).0;
            sums = λ t is_wanted. (by_wish t true is_wanted).1 refl;
            others_empty = λ t not_wanted. entry t ∙ ap (λ (c : Bool). cond c (subset_from code (has known) t) 0) not_wanted;
          }
        where
          entry : (t : ℕ) → get_or subsets t 0 ≡ cond (asked_symbols code asked t) (subset_from code (has known) t) 0
          entry t = are_solved t ∙ by_side (dec_lt t (symbols code))
            where
              by_side : Dec (t < symbols code) → get_or as_solved t 0 ≡ cond (asked_symbols code asked t) (subset_from code (has known) t) 0
              by_side (yes h) = get_or_subsets (pivots_from code (has known)) (known_rows code (has known)) (matrix code) (symbols code) (asked_symbols code asked) t h
              by_side (no h) =
                  get_or_tabulate_behind (symbols code) (λ u. cond (asked_symbols code asked u) (subset_from code (has known) u) 0) t (omega arith)
                  ∙ sym (ap (λ (c : Bool). cond c (subset_from code (has known) t) 0) (not_wanted_behind t (omega arith)))

          by_wish : (t : ℕ) (wish : Bool) → asked_symbols code asked t ≡ wish
              → Within (has (get_or subsets t 0)) (survives code.layout asked.disks) × (wish ≡ true → select (matrix code) (get_or subsets t 0) ≡ get_or (matrix code) t 0)
          by_wish t true is_wanted =
              let same = entry t ∙ ap (λ (c : Bool). cond c (subset_from code (has known) t) 0) is_wanted in (
                subst (λ (set : ℕ). Within (has set) (survives code.layout asked.disks)) (sym same) (subset_alive code asked workable (has known) chosen.known_survive t),
                λ yes.
                    ap (select (matrix code)) same
                    ∙ subset_sums code asked workable (has known) chosen.known_survive none_found t is_wanted,
              )
          by_wish t false not_wanted =
              let same = entry t ∙ ap (λ (c : Bool). cond c (subset_from code (has known) t) 0) not_wanted in (
                subst (λ (set : ℕ). Within (has set) (survives code.layout asked.disks)) (sym same) (λ s h. absurd (true≢false (sym h ∙ has_empty s))),
                λ no. absurd (true≢false (sym no)),
              )

      -- They fit the sheet and the buffer
      pub plan_fits : PlanFits asked.edition code.layout code.data_symbols asked.disks asked.wanted (has wanted) subsets room
      plan_fits = fits_if_right wanted subsets are_below subset_steps_right

      -- A sheet written from them is a good plan's
      pub worked_plan : {sheet_bytes reads : ℕ} {before after : List ℕ} → reads ≡ source_count (symbols code) (subset_plan (symbols code) (has wanted) subsets)
          → sheet_bytes ≡ length (sheet_of code asked reads (subset_plan (symbols code) (has wanted) subsets))
          → after ≡ at_front (sheet_of code asked reads (subset_plan (symbols code) (has wanted) subsets)) before
          → WorkedFrom code asked (has known) before after (Gives (APlan sheet_bytes reads))
      worked_plan reads_are length_is first_sheet = (written_if_right wanted subsets are_below subset_steps_right reads_are length_is first_sheet, steps_are)

  -- ------------------------------------------------------------------
  -- All survivors

  -- With all survivors known
  pub all_known : {known : ℕ → Bool} → ((s : ℕ) → known s ≡ survives code.layout asked.disks s) → (before after : List ℕ) (answer : Answer Found)
      → WorkedFrom code asked known before after answer → WorkedFrom code asked (survives code.layout asked.disks) before after answer
  all_known all before after answer = subst (λ (set : ℕ → Bool). WorkedFrom code asked set before after answer) (fun_ext all)

  -- What was worked out from all survivors is what planning promises
  pub worked_from_all : (before after : List ℕ) (answer : Answer Found) → WorkedFrom code asked (survives code.layout asked.disks) before after answer
      → Worked code asked before after answer
  worked_from_all before after (Gives (APlan sheet_bytes reads)) worked = worked.0
  worked_from_all before after (Gives (APatterns patterns)) worked = (
    record { cannot = shown_rules_plans_out code asked workable (get_or patterns 0 0) worked.0.shown; gone = worked.0.gone; something = worked.0.something; are = worked.0.are },
    worked.1,
  )
  worked_from_all before after (Refuses refusal) worked = absurd worked
