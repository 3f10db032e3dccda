-- Every refusal of document 01's table has a number above 0, so that number 0 is free for "nothing refused". Assumes nothing.
use mathlib.Core.Path.{◌≡◌, refl}
use mathlib.Core.Bool.{false}
use lib.Dec.{eqb}
use borrow.Author.Tests.{eqb-false}
use Rattle.refusals.specs.Refusals.{numbered}
use Rattle.refusals.specs.declared.Refusal.{Refusal}
use Rattle.refusals.specs.declared.Refusal.TheVariants.{
  CodeSheetTooShort,
  CodeSheetTooLong,
  CodeSheetCount,
  CodeSheetEdition,
  CodeBeyondLimit,
  StrayBit,
  NoSuchDisk,
  PlanSheetTooShort,
  PlanSheetTooLong,
  PlanSheetCount,
  PlanSheetEdition,
  PlanOfAnotherCode,
  PlanOfAnotherDisk,
  MalformedStep,
  TargetNotWanted,
  UnfilledPlaceUsed,
  NeverFilled,
  EndsWrong,
  WrongReadCount,
  BadWantedList,
  BadDiskList,
  StepOntoItself,
  SymbolLength,
  StripeLength,
  DataLength,
  PlanBufferTooShort,
  SpareStripLength,
  NotInFamily,
  SheetBufferTooShort,
  NoSuchSymbol,
  TooManySurvivors,
  BadDiskState,
}

-- Line by line of the table
not_numbered_0 : (refusal : Refusal) → eqb (numbered refusal).number 0 ≡ false
not_numbered_0 CodeSheetTooShort = refl
not_numbered_0 CodeSheetTooLong = refl
not_numbered_0 CodeSheetCount = refl
not_numbered_0 CodeSheetEdition = refl
not_numbered_0 CodeBeyondLimit = refl
not_numbered_0 (StrayBit place) = refl
not_numbered_0 NoSuchDisk = refl
not_numbered_0 PlanSheetTooShort = refl
not_numbered_0 PlanSheetTooLong = refl
not_numbered_0 PlanSheetCount = refl
not_numbered_0 PlanSheetEdition = refl
not_numbered_0 PlanOfAnotherCode = refl
not_numbered_0 PlanOfAnotherDisk = refl
not_numbered_0 (MalformedStep step) = refl
not_numbered_0 (TargetNotWanted step) = refl
not_numbered_0 (UnfilledPlaceUsed step) = refl
not_numbered_0 (NeverFilled place) = refl
not_numbered_0 (EndsWrong place) = refl
not_numbered_0 (WrongReadCount count) = refl
not_numbered_0 (BadWantedList position) = refl
not_numbered_0 (BadDiskList position) = refl
not_numbered_0 (StepOntoItself step) = refl
not_numbered_0 SymbolLength = refl
not_numbered_0 StripeLength = refl
not_numbered_0 DataLength = refl
not_numbered_0 PlanBufferTooShort = refl
not_numbered_0 SpareStripLength = refl
not_numbered_0 NotInFamily = refl
not_numbered_0 SheetBufferTooShort = refl
not_numbered_0 NoSuchSymbol = refl
not_numbered_0 (TooManySurvivors survivors) = refl
not_numbered_0 (BadDiskState disk) = refl

-- No refusal has number 0
pub number_not_0 : (refusal : Refusal) → (numbered refusal).number ≡ 0 → ⊥
number_not_0 refusal = eqb-false (numbered refusal).number 0 (not_numbered_0 refusal)
