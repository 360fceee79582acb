pub mod HistoryLemmas
pub mod ListLemmas
pub mod RingLemmas
pub mod StampLemmas
pub mod ValueLemmas
