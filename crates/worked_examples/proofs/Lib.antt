mod Opened
mod Marks
mod Examples
