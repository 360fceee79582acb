pub mod WalkLemmas
pub mod CpuLemmas
pub mod ScriptLemmas
pub mod FollowLemmas
pub mod EntryLemmas
pub mod RingLemmas
pub mod LookLemmas
