pub mod PutLaws
pub mod PassLaws
pub mod RunLaws
