mod ByteLaws
mod ColumnLaws
pub mod CallLaws
pub mod UnitLaws
