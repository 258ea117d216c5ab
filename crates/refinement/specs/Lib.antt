pub mod Tasks
pub mod Pillow
pub mod Laws
