pub mod Lines
pub mod Numerals
pub mod Rows
pub mod InnerNumerals
pub mod InnerRows
