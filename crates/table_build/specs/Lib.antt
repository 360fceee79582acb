pub mod TableData
pub mod Built
pub mod InnerReading
pub mod InnerBlocks
pub mod Outcome
