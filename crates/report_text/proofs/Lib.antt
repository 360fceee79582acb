pub mod RunLemmas
pub mod TextLemmas
pub mod AnswerLemmas
pub mod CallerLemmas
pub mod StateLemmas
pub mod LoadLemmas
