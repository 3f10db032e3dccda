pub mod MatrixLaws
