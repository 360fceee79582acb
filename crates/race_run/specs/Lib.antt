pub mod Passes
pub mod Turns
pub mod Closing
pub mod InnerRule
pub mod InnerRunners
pub mod Race
pub mod NothingLeft
