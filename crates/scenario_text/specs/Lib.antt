pub mod Spelling
pub mod Calls
pub mod Faults
pub mod InnerReading
pub mod InnerDrafts
pub mod InnerPrinting
