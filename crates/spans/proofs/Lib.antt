pub mod SpanLaws
pub mod LostPatternLaws
pub mod GoneLaws
pub mod EquationLaws
pub mod SurvivorLaws
pub mod SoundnessLaws
