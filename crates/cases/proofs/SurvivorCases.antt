-- What the tester for survivors can answer of stripes of one byte a symbol, by its equations computed. Assumes nothing.
use mathlib.Core.Path.{◌≡◌, refl, ap, ◌∙◌, subst}
use mathlib.Core.List.{List}
use Prim.Native.Nat.{ℕ, ◌*◌, ◌<◌}
use native.Mathlib.Decide.{dec_lt}
use native.Mathlib.Omega.{arith}
use lib.Dec.{eqb, ltb}
use lib.ListN.{length, get_or}
use Rattle.cases.proofs.ComputedTests.{first_failing, bytes_if_tested, meets_if_tested}
use Rattle.code_sheets.specs.CodeReading.{reading}
use Rattle.codes.specs.Codes.{LinearCode, symbols, matrix, WithinLimits}
use Rattle.gf2.specs.InnerElimination.{units}
use Rattle.gf2.specs.Selection.{select}
use Rattle.gf2.proofs.Columns.{column}
use Rattle.plans.specs.Judgement.{survives}
use Rattle.plans.proofs.JudgementLaws.{matrix_below, matrix_survives_below}
use Rattle.refusals.specs.Orders.{Fine, Answer, Gives, Refuses}
use Rattle.refusals.proofs.OrderLaws.{refused_is_not_fine}
use Rattle.soundness.specs.Survivors.{test_verdict, EquationsFor, survivor_equations, YesOrNo, Yes, No, CanBeSound, LowestUnsound, TestPromised}
use Rattle.soundness.proofs.CallLaws.{sound_if_none_fails, unsound_there}
use Rattle.spans.specs.Equations.{MeetsAll}
use Rattle.spans.proofs.SurvivorLaws.{equations_right_and_enough}

-- ------------------------------------------------------------------
-- By the equations

module _ (code : LinearCode) (within : WithinLimits code) (disks stripe : List ℕ) (bytes : first_failing (λ byte. ltb byte 256) stripe ≡ length stripe)
    (whole : length stripe ≡ symbols code * 1) where
  equations : EquationsFor code disks (survivor_equations code disks)
  equations =
      equations_right_and_enough code.data_symbols (units code.data_symbols) (λ i. refl) (matrix code) (matrix_below code within)
      (survives code.layout disks) (matrix_survives_below code within disks)

  -- Where all of them are met the survivors can be sound
  pub sound_if_met : first_failing (λ equation. eqb (select (column 1 (symbols code) stripe 0) equation) 0) (survivor_equations code disks) ≡ length (survivor_equations code disks)
      → CanBeSound code disks 1 stripe
  sound_if_met all_met =
      sound_if_none_fails code within disks 1 stripe (bytes_if_tested stripe bytes) whole equations refl
      (record {
        within = omega arith;
        met_before =
            λ (i : ℕ) (h : i < 1).
            let first : 0 ≡ i = omega arith in
            subst (λ (c : ℕ). MeetsAll (survivor_equations code disks) (column 1 (symbols code) stripe c)) first (meets_if_tested (survivor_equations code disks) (column 1 (symbols code) stripe 0) all_met);
        fails_there = λ h. absurd (omega arith);
      })
      (omega arith)

  -- Where one fails they can't
  pub unsound_if_not_met : (e : ℕ) → e < length (survivor_equations code disks) → (select (column 1 (symbols code) stripe 0) (get_or (survivor_equations code disks) e 0) ≡ 0 → ⊥)
      → LowestUnsound code disks 1 stripe 0
  unsound_if_not_met e h fails =
      unsound_there code within disks 1 stripe (bytes_if_tested stripe bytes) whole equations refl
      (record { within = omega arith; met_before = λ i before. absurd (omega arith); fails_there = λ q met. fails (met e h) }) (omega arith)

-- ------------------------------------------------------------------
-- So the tester can only answer so

module _ (code_sheet disks : List ℕ) (size : ℕ) (stripe : List ℕ) (fine : test_verdict code_sheet disks size (length stripe) ≡ Fine) where
  pub answers_yes : CanBeSound (reading code_sheet).code disks size stripe → (given : Answer YesOrNo) → TestPromised code_sheet disks size stripe given → given ≡ Gives Yes
  answers_yes sound (Gives Yes) promised = refl
  answers_yes sound (Gives (No column)) promised = absurd (promised.says.none_agrees sound)
  answers_yes sound (Refuses refusal) promised = absurd (refused_is_not_fine (promised.refusal ∙ fine))

  -- There is one lowest column
  pub answers_no : (lowest : ℕ) → LowestUnsound (reading code_sheet).code disks size stripe lowest
      → (given : Answer YesOrNo) → TestPromised code_sheet disks size stripe given → given ≡ Gives (No lowest)
  answers_no lowest unsound (Gives Yes) promised = absurd (unsound.none_agrees promised.says)
  answers_no lowest unsound (Gives (No column)) promised = ap (λ (c : ℕ). Gives (No c)) (by_side (dec_lt column lowest) (dec_lt lowest column))
    where
      by_side : Dec (column < lowest) → Dec (lowest < column) → column ≡ lowest
      by_side (yes before) other = absurd (promised.says.none_there (unsound.some_before column before))
      by_side (no h) (yes after) = absurd (unsound.none_there (promised.says.some_before lowest after))
      by_side (no h) (no q) = omega arith
  answers_no lowest unsound (Refuses refusal) promised = absurd (refused_is_not_fine (promised.refusal ∙ fine))
