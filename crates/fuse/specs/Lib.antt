pub mod Merging
pub mod Script
pub mod InnerRuns
