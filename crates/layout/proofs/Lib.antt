pub mod Blocks
pub mod Writes
pub mod Laid
