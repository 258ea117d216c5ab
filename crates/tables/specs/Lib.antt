pub mod Lent
pub mod Edges
pub mod Passed
