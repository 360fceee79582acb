pub mod AcceptedLemmas
pub mod PreparingLemmas
pub mod ReplyLemmas
pub mod RequestLemmas
