-- Laws of the calls: what their verdicts say, and what the equations and the lowest column say of a code. Assumes nothing.
use mathlib.Core.Path.{◌≡◌, refl, sym, ap, ◌∙◌, subst, fun_ext}
use mathlib.Core.Bool.{Bool}
use mathlib.Core.List.{List}
use mathlib.Core.Logic.{◌↔◌}
use Prim.Native.Nat.{ℕ, ◌*◌, ◌≤◌, ◌<◌}
use native.Mathlib.Omega.{arith}
use lib.ListN.{length}
use borrow.Author.Tests.{ltb-false, eqb-true, not-false}
use Rattle.bits.specs.BitSets.{has}
use Rattle.code_sheets.specs.CodeReading.{CodeRead, reading}
use Rattle.codes.specs.Codes.{LinearCode, symbols, matrix, WithinLimits}
use Rattle.codes.specs.Layouts.{symbols_of}
use Rattle.codes.specs.Lengths.{stripe_faults}
use Rattle.codes.specs.declared.Layout.{Layout}
use Rattle.soundness.specs.InnerColumns.{LowestFailing}
use Rattle.gf2.specs.InnerElimination.{units}
use Rattle.gf2.specs.Stripes.{AreBytes}
use Rattle.lists.specs.Lists.{GoodDisks}
use Rattle.lists.proofs.ListLaws.{good_disks_if_no_fault}
use Rattle.plans.specs.Check.{asked_faults}
use Rattle.plans.specs.Judgement.{survives}
use Rattle.plans.proofs.JudgementLaws.{length_matrix, matrix_below, matrix_survives_below}
use Rattle.refusals.specs.Orders.{Outcome, Fine, Refused, Answer, Gives, Refuses, Fault, and_then, outcome_of}
use Rattle.refusals.specs.Refusals.{Numbered}
use Rattle.refusals.proofs.OrderLaws.{refusal_stands, orders_join, fine_means_none_holds, none_holds_first, none_holds_second, refused_is_not_fine}
use Rattle.soundness.specs.Survivors.{equations_verdict, test_faults, test_verdict, EquationsFor, survivor_equations, YesOrNo, Yes, No, CanBeSound, LowestUnsound, Says, IsYes, TestPromised}
use Rattle.spans.specs.InnerSpans.{equations_of}
use Rattle.spans.proofs.SurvivorLaws.{equations_right_and_enough}
use Rattle.spans.proofs.SoundnessLaws.{sound_if_all_met, unsound_if_one_fails}

-- ------------------------------------------------------------------
-- Verdicts

-- A refusal is that of every order behind it
pub refused_first : (faults : List Fault) {verdict : Outcome} {refusal : Numbered} → verdict ≡ Refused refusal → Refused refusal ≡ and_then verdict faults
refused_first faults {refusal = refusal} e = sym (ap (λ (v : Outcome). and_then v faults) e ∙ refusal_stands refusal faults)

module _ (layout : Layout) (disks : List ℕ) (size stripe_bytes : ℕ) (read : Outcome) {asked : Outcome} (is_asked : asked ≡ and_then read (asked_faults layout disks)) where
  -- The order in its two parts
  pub by_parts : and_then asked (stripe_faults (symbols_of layout) size stripe_bytes) ≡ and_then read (test_faults layout disks size stripe_bytes)
  by_parts =
      ap (λ (v : Outcome). and_then v (stripe_faults (symbols_of layout) size stripe_bytes)) is_asked
      ∙ sym (orders_join read (asked_faults layout disks) (stripe_faults (symbols_of layout) size stripe_bytes))

-- What a fine verdict says of the set of disks
pub asked_fine : (layout : Layout) (disks : List ℕ) (read : Outcome) → and_then read (asked_faults layout disks) ≡ Fine
    → (read ≡ Fine) × GoodDisks layout.disks layout.disks disks
asked_fine layout disks read fine =
    let none = fine_means_none_holds read (asked_faults layout disks) fine in
    (none.0, good_disks_if_no_fault layout.disks layout.disks disks none.1)

-- and of the stripe too
pub record Testable (layout : Layout) (disks : List ℕ) (size stripe_bytes : ℕ) (read : Outcome) : Type 0 where
  pub read_fine : read ≡ Fine
  pub disks_good : GoodDisks layout.disks layout.disks disks
  pub size_to : size ≤ 65536
  pub whole : stripe_bytes ≡ symbols_of layout * size

pub test_fine : (layout : Layout) (disks : List ℕ) (size stripe_bytes : ℕ) (read : Outcome) → and_then read (test_faults layout disks size stripe_bytes) ≡ Fine
    → Testable layout disks size stripe_bytes read
test_fine layout disks size stripe_bytes read fine =
    let none = fine_means_none_holds read (test_faults layout disks size stripe_bytes) fine in
    let early = none_holds_first (asked_faults layout disks) (stripe_faults (symbols_of layout) size stripe_bytes) none.1 in
    let later = none_holds_second (asked_faults layout disks) (stripe_faults (symbols_of layout) size stripe_bytes) none.1 in
    record {
      read_fine = none.0;
      disks_good = good_disks_if_no_fault layout.disks layout.disks disks early;
      size_to = ltb-false 65536 size later.1.0;
      whole = eqb-true stripe_bytes (symbols_of layout * size) (not-false _ later.1.1.0);
    }

-- ------------------------------------------------------------------
-- Equations and columns

module _ (code : LinearCode) (within : WithinLimits code) (disks : List ℕ) where
  -- The equations that were worked out are among the survivors, right and enough
  module _ (known : ℕ) {equations : List ℕ} (known_are : (s : ℕ) → has known s ≡ survives code.layout disks s)
      (are : equations ≡ equations_of (units code.data_symbols) (has known) (matrix code)) where
    pub are_equations : equations ≡ survivor_equations code disks
    are_equations = are ∙ ap (λ (set : ℕ → Bool). equations_of (units code.data_symbols) set (matrix code)) (fun_ext known_are)

    pub equations_for_code : EquationsFor code disks equations
    equations_for_code =
        subst (EquationsFor code disks) (sym are_equations)
        (equations_right_and_enough code.data_symbols (units code.data_symbols) (λ i. refl) (matrix code) (matrix_below code within)
        (survives code.layout disks) (matrix_survives_below code within disks))

  -- The lowest column in which one fails says whether the survivors can be sound
  module _ (size : ℕ) (stripe : List ℕ) (stripe_bytes : AreBytes stripe) (whole : length stripe ≡ symbols code * size) {equations : List ℕ} (among : EquationsFor code disks equations)
      {n lowest : ℕ} (n-is : n ≡ symbols code) (tried : LowestFailing size n stripe equations lowest) where
    of_rows : LowestFailing size (length (matrix code)) stripe equations lowest
    of_rows = subst (λ (m : ℕ). LowestFailing size m stripe equations lowest) (n-is ∙ sym (length_matrix code within)) tried

    rows_whole : length stripe ≡ length (matrix code) * size
    rows_whole = whole ∙ ap (λ (m : ℕ). m * size) (sym (length_matrix code within))

    pub sound_if_none_fails : size ≤ lowest → CanBeSound code disks size stripe
    sound_if_none_fails all =
        sound_if_all_met size code.data_symbols (matrix code) (survives code.layout disks) (matrix_survives_below code within disks) stripe rows_whole stripe_bytes among
        (λ i h. of_rows.met_before i (omega arith))

    pub unsound_there : lowest < size → LowestUnsound code disks size stripe lowest
    unsound_there h =
        unsound_if_one_fails size code.data_symbols (matrix code) (survives code.layout disks) (matrix_survives_below code within disks) stripe rows_whole stripe_bytes among
        lowest h of_rows.met_before (of_rows.fails_there h)

-- ------------------------------------------------------------------
-- The calls

module _ (code_sheet disks : List ℕ) (read : CodeRead) (as_read : read ≡ reading code_sheet) where
  -- The list's verdict is the order's on the sheet
  pub list_verdict : {verdict : Outcome} → verdict ≡ and_then read.verdict (asked_faults read.code.layout disks) → verdict ≡ equations_verdict code_sheet disks
  unfolding equations_verdict
  list_verdict e = e ∙ ap (λ (r : CodeRead). and_then r.verdict (asked_faults r.code.layout disks)) as_read

  -- The equations are those of the code that the sheet tells
  pub list_of_sheet : {equations : List ℕ} → EquationsFor read.code disks equations → EquationsFor (reading code_sheet).code disks equations
  list_of_sheet {equations} among = subst (λ (r : CodeRead). EquationsFor r.code disks equations) as_read among

  pub same_list : {equations : List ℕ} → equations ≡ survivor_equations read.code disks → equations ≡ survivor_equations (reading code_sheet).code disks
  same_list e = e ∙ ap (λ (r : CodeRead). survivor_equations r.code disks) as_read

  module _ (size : ℕ) (stripe : List ℕ) {verdict : Outcome} (verdict_is : verdict ≡ and_then read.verdict (test_faults read.code.layout disks size (length stripe))) where
    -- The test's verdict too
    of_sheet : verdict ≡ test_verdict code_sheet disks size (length stripe)
    unfolding test_verdict
    of_sheet = verdict_is ∙ ap (λ (r : CodeRead). and_then r.verdict (test_faults r.code.layout disks size (length stripe))) as_read

    -- Refused: the refusal is the answer
    pub promised_if_refused : (refusal : Numbered) → verdict ≡ Refused refusal → TestPromised code_sheet disks size stripe (Refuses refusal)
    promised_if_refused refusal e =
        record { refusal = sym e ∙ of_sheet; says = tt; exactly = λ fine. absurd (refused_is_not_fine (sym e ∙ of_sheet ∙ fine)) }

    -- Fine: what the equations said is the answer
    pub promised_if_fine : verdict ≡ Fine → (answer : Answer YesOrNo) → Says read.code disks size stripe answer → outcome_of answer ≡ Fine → TestPromised code_sheet disks size stripe answer
    promised_if_fine e answer says answered =
        record { refusal = answered ∙ sym e ∙ of_sheet; says = says_of_sheet; exactly = λ fine. exactly answer answered says_of_sheet }
      where
        says_of_sheet : Says (reading code_sheet).code disks size stripe answer
        says_of_sheet = subst (λ (r : CodeRead). Says r.code disks size stripe answer) as_read says

        exactly : (a : Answer YesOrNo) → outcome_of a ≡ Fine → Says (reading code_sheet).code disks size stripe a → IsYes a ↔ CanBeSound (reading code_sheet).code disks size stripe
        exactly (Gives Yes) q sound = (λ yes. sound, λ same. tt)
        exactly (Gives (No column)) q lowest = (λ none. absurd none, λ sound. lowest.none_agrees sound)
        exactly (Refuses refusal) q none = absurd (refused_is_not_fine q)
