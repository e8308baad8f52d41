pub mod TableLemmas
pub mod TextLemmas
pub mod StepLemmas
pub mod AnswerLemmas
