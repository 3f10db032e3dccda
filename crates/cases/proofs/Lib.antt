mod ComputedTests
mod OnlyPatternLaws
mod SurvivorCases
mod FewestCases
pub mod CaseProofs
