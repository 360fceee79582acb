pub mod Accesses
pub mod Script
pub mod InnerProgress
pub mod InnerCpus
pub mod InnerEntries
pub mod InnerScript
