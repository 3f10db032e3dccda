pub mod ImageLaws
pub mod SearchLaws
pub mod LoopLaws
pub mod BoundLaws
pub mod FirstImageLaws
