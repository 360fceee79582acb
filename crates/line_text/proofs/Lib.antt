pub mod DigitLemmas
pub mod NumeralLemmas
pub mod Steps
pub mod Cuts
pub mod RowLemmas
pub mod LineLemmas
