pub mod Sizes
pub mod Entries
pub mod Fields
pub mod Canonical
pub mod Level0
pub mod Places
