pub mod Kinds
pub mod Laws
pub mod Lent
pub mod Lines
pub mod Reading
pub mod Text
