-- A tester for survivors (document 02, §8): "From a code and a set of lost disks, work out a list of equations among survivors; then, over a lent stripe,
-- answer yes exactly if some valid stripe agrees on every surviving byte. A no names the lowest byte column within a symbol for which none exists. Nothing
-- is written. Prove the equations enough and right for any code, once. Which such list is given is free. Refusals: code sheet, 7, 24, 31, 32."
use Rattle.std.specs.Prelude.{◌≡◌, List, ◌++◌, ◌↔◌, ℕ, length, Result, Ok, Err}
use Rattle.fixed_lists.specs.FixedLists.{FixedList}
use Rattle.bits.specs.Numerals.{numerals}
use Rattle.bits.specs.declared.BitSet.{BitSet}
use Rattle.code_sheets.specs.CodeReading.{reading}
use Rattle.codes.specs.Codes.{LinearCode, matrix}
use Rattle.codes.specs.Layouts.{symbols_of}
use Rattle.codes.specs.Lengths.{stripe_faults}
use Rattle.codes.specs.declared.Layout.{Layout}
use Rattle.gf2.specs.InnerElimination.{units}
use Rattle.plans.specs.Check.{asked_faults}
use Rattle.plans.specs.Judgement.{survives}
use Rattle.refusals.specs.Orders.{Fault, Outcome, Fine, Answer, Gives, Refuses, and_then, outcome_of}
use Rattle.refusals.specs.Refusals.{numbered}
use Rattle.refusals.specs.declared.Refusal.{Refusal}
use Rattle.soundness.specs.declared.Tested.{Tested}
use Rattle.soundness.specs.declared.Tested.TheVariants.{Sound, Unsound}
use Rattle.spans.specs.Equations.{EquationsAmong}
use Rattle.spans.specs.InnerSpans.{equations_of}
use Rattle.spans.specs.Soundness.{SomeValidAgrees, LowestWithoutAgreement}

-- ------------------------------------------------------------------
-- Refusals

-- The list of equations: code sheet, 7, 24
unfoldable pub equations_verdict : List ℕ → List ℕ → Outcome
equations_verdict code_sheet disks = and_then (reading code_sheet).verdict (asked_faults (reading code_sheet).code.layout disks)

-- 7, 24, 31, 32
abbrev pub test_faults : Layout → List ℕ → ℕ → ℕ → List Fault
test_faults layout disks size stripe_bytes = asked_faults layout disks ++ stripe_faults (symbols_of layout) size stripe_bytes

-- The test: code sheet, 7, 24, 31, 32
unfoldable pub test_verdict : List ℕ → List ℕ → ℕ → ℕ → Outcome
test_verdict code_sheet disks size stripe_bytes = and_then (reading code_sheet).verdict (test_faults (reading code_sheet).code.layout disks size stripe_bytes)

-- ------------------------------------------------------------------
-- The list of equations

-- What the result stands for
abbrev pub as_listed : Result (FixedList BitSet) Refusal → Answer (List ℕ)
as_listed (Ok equations) = Gives (numerals equations.items)
as_listed (Err refusal) = Refuses (numbered refusal)

-- The equations are among the survivors, right and enough
abbrev pub EquationsFor : LinearCode → List ℕ → List ℕ → Type 0
EquationsFor code disks equations = EquationsAmong code.data_symbols (matrix code) (survives code.layout disks) equations

abbrev pub ListsEquations : List ℕ → List ℕ → Answer (List ℕ) → Type 0
ListsEquations code_sheet disks (Gives equations) = EquationsFor (reading code_sheet).code disks equations
ListsEquations code_sheet disks (Refuses refusal) = Unit

-- Which list it is: the equations that elimination over the survivors' rows gives. So every call speaks of the same list
abbrev pub survivor_equations : LinearCode → List ℕ → List ℕ
survivor_equations code disks = equations_of (units code.data_symbols) (survives code.layout disks) (matrix code)

abbrev pub ListsAlways : List ℕ → List ℕ → Answer (List ℕ) → Type 0
ListsAlways code_sheet disks (Gives equations) = equations ≡ survivor_equations (reading code_sheet).code disks
ListsAlways code_sheet disks (Refuses refusal) = Unit

-- All that the call promises of its answer
pub record ListPromised (code_sheet disks : List ℕ) (answer : Answer (List ℕ)) : Type 0 where
  pub refusal : outcome_of answer ≡ equations_verdict code_sheet disks
  pub equations : ListsEquations code_sheet disks answer
  pub list : ListsAlways code_sheet disks answer

-- ------------------------------------------------------------------
-- The test

-- Yes, or no and a column
pub data YesOrNo : Type 0 where
  Yes : YesOrNo
  No : ℕ → YesOrNo

-- What a `Tested` stands for
abbrev pub as_said : Tested → YesOrNo
as_said Sound = Yes
as_said (Unsound column) = No column

-- What the test's result stands for
abbrev pub as_tested : Result Tested Refusal → Answer YesOrNo
as_tested (Ok tested) = Gives (as_said tested)
as_tested (Err refusal) = Refuses (numbered refusal)

-- Some valid stripe agrees on every surviving byte
abbrev pub CanBeSound : LinearCode → List ℕ → ℕ → List ℕ → Type 0
CanBeSound code disks size stripe = SomeValidAgrees size code.data_symbols (matrix code) (survives code.layout disks) stripe

-- The lowest byte column within a symbol for which none exists
abbrev pub LowestUnsound : LinearCode → List ℕ → ℕ → List ℕ → ℕ → Type 0
LowestUnsound code disks size stripe column = LowestWithoutAgreement size code.data_symbols (matrix code) (survives code.layout disks) stripe column

-- What an answer says
abbrev pub Says : LinearCode → List ℕ → ℕ → List ℕ → Answer YesOrNo → Type 0
Says code disks size stripe (Gives Yes) = CanBeSound code disks size stripe
Says code disks size stripe (Gives (No column)) = LowestUnsound code disks size stripe column
Says code disks size stripe (Refuses refusal) = Unit

-- The answer is yes
abbrev pub IsYes : Answer YesOrNo → Type 0
IsYes (Gives Yes) = Unit
IsYes (Gives (No column)) = ⊥
IsYes (Refuses refusal) = ⊥

-- Once nothing is refused, the answer is yes exactly if some valid stripe agrees on every surviving byte
abbrev pub YesExactlyIfSound : List ℕ → List ℕ → ℕ → List ℕ → Answer YesOrNo → Type 0
YesExactlyIfSound code_sheet disks size stripe answer =
    test_verdict code_sheet disks size (length stripe) ≡ Fine → IsYes answer ↔ CanBeSound (reading code_sheet).code disks size stripe

-- All that the call promises of its answer
pub record TestPromised (code_sheet disks : List ℕ) (size : ℕ) (stripe : List ℕ) (answer : Answer YesOrNo) : Type 0 where
  pub refusal : outcome_of answer ≡ test_verdict code_sheet disks size (length stripe)
  pub says : Says (reading code_sheet).code disks size stripe answer
  pub exactly : YesExactlyIfSound code_sheet disks size stripe answer
