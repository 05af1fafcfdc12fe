pub mod AppendAnswers
