pub mod IndexLemmas
pub mod ScriptLemmas
pub mod StartLemmas
pub mod RunLemmas
