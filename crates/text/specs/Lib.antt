pub mod Loads
pub mod Put
pub mod Writes
