pub mod Levels
pub mod Weights
pub mod Ranges
pub mod Seams
