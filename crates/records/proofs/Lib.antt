pub mod MadeLaws
pub mod PartLaws
pub mod LoopLaws
