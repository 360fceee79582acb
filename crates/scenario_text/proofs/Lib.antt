pub mod FormLemmas
pub mod PrintLemmas
pub mod Words
pub mod Order
pub mod Texts
pub mod Loop
