pub mod DeskAnswers
