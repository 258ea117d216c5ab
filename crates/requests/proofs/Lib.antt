pub mod Through
pub mod Fits
pub mod Rows
