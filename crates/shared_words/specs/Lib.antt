pub mod Acts
pub mod Events
pub mod Next
pub mod Start
