pub mod Numbers
pub mod Runs
pub mod Stores
