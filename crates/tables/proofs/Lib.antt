pub mod Reading
pub mod Passes
