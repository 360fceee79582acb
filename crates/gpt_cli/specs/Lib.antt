pub mod Statuses
pub mod Texts
pub mod Upheld
pub mod Replies
pub mod Races
pub mod Runs
pub mod InnerPreparing
