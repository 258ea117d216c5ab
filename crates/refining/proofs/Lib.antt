pub mod Refines
