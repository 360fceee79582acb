pub mod BlockLemmas
pub mod BuiltLemmas
pub mod MeaningLemmas
pub mod ReadingLemmas
