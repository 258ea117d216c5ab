pub mod Writes
pub mod State
pub mod Model
pub mod Questions
