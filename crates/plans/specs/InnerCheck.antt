-- The check as the code takes it: what was read of a sheet, the order behind the step limit, and what judging the steps needs.
use Rattle.std.specs.Prelude.{◌≡◌, Bool, true, cond, List, [], ◌∷◌, ◌++◌, ℕ, ◌≤◌, ◌<◌, eqb}
use Rattle.codes.specs.Codes.{LinearCode}
use Rattle.bits.specs.BitSets.{has}
use Rattle.bits.specs.Numerals.{set_width}
use Rattle.lists.specs.Lists.{list_order, disk_faults, GoodDisks}
use Rattle.plan_sheets.specs.InnerPlanSheets.{SmallSections}
use Rattle.plan_sheets.specs.PlanSheets.{head_in, sections_in, step_count}
use Rattle.plan_sheets.specs.declared.head.PlanHead.{PlanHead}
use Rattle.plan_sheets.specs.declared.head.Sections.{Sections}
use Rattle.plans.specs.Check.{length_faults}
use Rattle.plans.specs.Judgement.{lost, most_failed, least_wanted, GoodFailed, GoodWanted}
use Rattle.refusals.specs.Orders.{Fault, ◌gets◌}
use Rattle.refusals.specs.Refusals.{◌at◌}

-- What was read of a sheet before its lists
pub record SheetRead (sheet : List ℕ) (head : PlanHead) (sections : Sections) (steps : ℕ) : Type 0 where
  pub head_is : head ≡ head_in sheet
  pub sections_are : sections ≡ sections_in sheet
  pub sections_small : SmallSections sections
  pub steps_are : steps ≡ step_count sheet
  pub steps_small : steps < 65536

-- 7 for a listed disk, 24, 16, 23, 11, 12, by numbers: so many symbols are lost and so many listed, and the first bad one is at `bad`
abbrev pub close_order : ℕ → ℕ → List ℕ → Bool → ℕ → ℕ → ℕ → ℕ → ℕ → List Fault
close_order disks edition failed apart lost_symbols count bad whole sheet_bytes =
    disk_faults disks (most_failed edition disks) failed
    ++ ((apart gets 16 at 0) ∷ [])
    ++ list_order count (least_wanted edition) (cond (eqb edition 1) 0 lost_symbols) bad (23 at 0) (23 at bad)
    ++ length_faults whole sheet_bytes

-- What judging the steps needs: disks and a list that are good, and the set of the lost symbols
pub record PlanJudged (code : LinearCode) (disks : List ℕ) (gone : ℕ) (head : PlanHead) (list : List ℕ) : Type 0 where
  pub disks_good : GoodFailed code.layout head.edition disks
  pub gone_is : (s : ℕ) → has gone s ≡ lost code.layout disks s
  pub list_good : GoodWanted code.layout disks head.edition list

-- The disks that a sheet lists are good where they are those asked: they were tested before
abbrev pub KnownDisks : ℕ → ℕ → List ℕ → Bool → Type 0
KnownDisks disks edition failed same_disks = (disks ≤ set_width) × (same_disks ≡ true → GoodDisks disks (most_failed edition disks) failed)
