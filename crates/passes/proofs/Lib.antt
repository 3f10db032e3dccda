pub mod SumLaws
pub mod StartLaws
