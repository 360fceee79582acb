pub mod Regions
pub mod Refusals
pub mod Runs
pub mod InnerRuns
pub mod PlanData
pub mod Outcome
