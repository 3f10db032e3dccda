pub mod FloatOrder
pub mod PriceLaws
pub mod KindLaws
