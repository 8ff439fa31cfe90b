pub mod Heads
pub mod Domain
pub mod Fills
pub mod Passing
pub mod Assembled
pub mod RoundTrips
pub mod Theorems
pub mod Examples
