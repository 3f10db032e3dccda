pub mod RestoreLaws
pub mod CallLaws
