pub mod Generations
pub mod Duty
pub mod Barrier
