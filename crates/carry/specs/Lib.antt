pub mod Rows
pub mod Corners
pub mod Mixes
pub mod Walks
pub mod Slots
pub mod Asked
pub mod OneLevel
