mod Tasks
mod Steps
mod Keeps
mod Asks
