pub mod Words
pub mod LineWords
mod Rule
mod Bodies
pub mod Exactly
pub mod Finds
mod Laying
mod RowsRead
mod TextRows
