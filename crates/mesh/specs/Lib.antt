pub mod Marks
pub mod Count
pub mod Mesh
pub mod Refusals
pub mod Causes
