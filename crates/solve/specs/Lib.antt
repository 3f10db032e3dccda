pub mod InnerSolving
