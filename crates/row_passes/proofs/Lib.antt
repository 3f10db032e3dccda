pub mod GatherLaws
pub mod PassLaws
