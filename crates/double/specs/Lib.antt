pub mod Double
pub mod Sums
