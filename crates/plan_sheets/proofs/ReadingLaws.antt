-- Laws of a plan sheet that is read: its sections by the edition, and its steps one after the other. Assumes nothing.
use mathlib.Core.Path.{◌≡◌, refl}
use mathlib.Core.Bool.{Bool, true, false, cond}
use mathlib.Core.List.{List, [], ◌∷◌}
use Prim.Native.Nat.{ℕ, suc, ◌+◌, ◌-◌, ◌≤◌, ◌<◌}
use native.Mathlib.Nat.{add-zero, sub-zero}
use native.Mathlib.Omega.{arith}
use lib.Dec.{eqb}
use lib.ListN.{get_or, drop}
use lib.Seq.{get_or-drop, drop-drop}
use borrow.Author.Tests.{eq-eqb, ne_eqb}
use Rattle.gf2.specs.Plans.{target}
use Rattle.gf2.specs.declared.Step.TheVariants.{Clear, Copy, Add}
use Rattle.plan_sheets.specs.PlanSheets.{SheetStep, step_of, list_from, sections_for, sections_in, head_length, steps_length, first_step, step_at, sheet_steps}
use Rattle.plan_sheets.specs.InnerPlanSheets.{SmallSections}

-- ------------------------------------------------------------------
-- The sections

module _ (edition failed listed : ℕ) where
  -- Edition 3 has both lists behind one byte count
  pub sections_third : edition ≡ 3 → record { failed = list_from 7 failed; wanted = list_from (8 + failed) listed } ≡ sections_for edition failed listed
  unfolding sections_for
  sections_third third = rw (eq-eqb edition 3 third)

  -- Edition 2 has one disk, and the list of symbols behind one byte count
  pub sections_second : edition ≡ 2 → record { failed = list_from 5 1; wanted = list_from 8 listed } ≡ sections_for edition failed listed
  unfolding sections_for
  sections_second second = rw second

  -- Any other has one disk and no list
  pub sections_other : (edition ≡ 3 → ⊥) → (edition ≡ 2 → ⊥) → record { failed = list_from 5 1; wanted = list_from 7 0 } ≡ sections_for edition failed listed
  unfolding sections_for
  sections_other not_third not-second = rw (ne_eqb edition 3 not_third, ne_eqb edition 2 not-second)

  -- All but edition 3 have one disk
  pub one_failed : eqb edition 3 ≡ false → (sections_for edition failed listed).failed ≡ list_from 5 1
  unfolding sections_for
  one_failed other = rw other

  -- A head has 9 bytes or more
  pub head_from : 9 ≤ head_length (sections_for edition failed listed)
  unfolding sections_for
  head_from = by_edition (eqb edition 3) (eqb edition 2)
    where
      by_edition : (third second : Bool)
          → 9 ≤ head_length (cond third (record { failed = list_from 7 failed; wanted = list_from (8 + failed) listed }) (record { failed = list_from 5 1; wanted = cond second (list_from 8 listed) (list_from 7 0) }))
      by_edition true second = omega arith
      by_edition false true = omega arith
      by_edition false false = omega arith

  -- Lists that one byte counts end early
  pub sections_small : failed < 256 → listed < 256 → SmallSections (sections_for edition failed listed)
  unfolding sections_for
  sections_small few_failed few_listed = by_edition (eqb edition 3) (eqb edition 2)
    where
      by_edition : (third second : Bool)
          → SmallSections (cond third (record { failed = list_from 7 failed; wanted = list_from (8 + failed) listed }) (record { failed = list_from 5 1; wanted = cond second (list_from 8 listed) (list_from 7 0) }))
      by_edition true second = record { failed_small = omega arith; wanted_small = omega arith }
      by_edition false true = record { failed_small = omega arith; wanted_small = omega arith }
      by_edition false false = record { failed_small = omega arith; wanted_small = omega arith }

-- A sheet's head has 9 bytes or more
pub sheet_head_from : (sheet : List ℕ) → 9 ≤ head_length (sections_in sheet)
sheet_head_from sheet = head_from (get_or sheet 1 0) (get_or sheet 6 0) _

-- ------------------------------------------------------------------
-- The steps

-- The target of the decoded step is the sheet's
pub target_step_of : (s : SheetStep) → target (step_of s) ≡ s.target
target_step_of s = by_kind (eqb s.kind 0) (eqb s.kind 1)
  where
    by_kind : (clear copy : Bool)
        → target (cond clear (Clear s.target) (cond copy (Copy s.target s.source) (Add s.target s.source))) ≡ s.target
    by_kind true copy = refl
    by_kind false true = refl
    by_kind false false = refl

-- Three bytes are the step that they begin
pub bytes_are_step : (bytes : List ℕ) (from : ℕ) {kind place source : ℕ} → kind ≡ get_or bytes from 0 → place ≡ get_or bytes (from + 1) 0
    → source ≡ get_or bytes (from + 2) 0 → record { kind = kind; target = place; source = source } ≡ first_step (drop from bytes)
bytes_are_step bytes from kind_read place_read source_read =
    rw (kind_read, place_read, source_read, get_or-drop, get_or-drop, get_or-drop, add-zero)

-- The steps from one on, of `count` in all
abbrev pub steps_from : ℕ → List ℕ → ℕ → List SheetStep
steps_from count bytes number = sheet_steps (count - number) (drop (steps_length number) bytes)

-- From the first on they are all
pub steps_from_all : (count : ℕ) (bytes : List ℕ) → sheet_steps count bytes ≡ steps_from count bytes 0
steps_from_all count bytes = rw sub-zero

-- From one on they begin with it
pub steps_from_next : (count : ℕ) (bytes : List ℕ) (number : ℕ) → number < count
    → steps_from count bytes number ≡ step_at bytes number ∷ steps_from count bytes (number + 1)
unfolding sheet_steps
steps_from_next count bytes number h =
    let left : count - number ≡ suc (count - (number + 1)) = omega arith in
    let behind : steps_length number + 3 ≡ steps_length (number + 1) = omega arith in
    rw (left, drop-drop, behind)

-- Behind the last there is none
pub steps_from_none : (count : ℕ) (bytes : List ℕ) (number : ℕ) → count ≤ number → steps_from count bytes number ≡ []
unfolding sheet_steps
steps_from_none count bytes number h =
    let none : count - number ≡ 0 = omega arith in
    rw none
