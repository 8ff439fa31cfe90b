pub mod Vectors
pub mod Counting
pub mod Sums
pub mod Buffers
pub mod Fills
pub mod Computing
