pub mod DrawLemmas
pub mod FormLemmas
