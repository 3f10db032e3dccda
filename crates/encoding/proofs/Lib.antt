pub mod EncodingLaws
pub mod CallLaws
