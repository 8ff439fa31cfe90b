pub mod Printing
pub mod Counting
pub mod Passing
pub mod Placed
pub mod Outcomes
pub mod Unique
