pub mod Blends
pub mod Corners
pub mod Laws
