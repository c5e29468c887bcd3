pub mod AnswerLemmas
pub mod Runs
pub mod StreamInputs
pub mod StreamLemmas
pub mod TextLemmas
