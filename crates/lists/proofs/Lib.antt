pub mod Sorting
pub mod Entries
pub mod Holding
