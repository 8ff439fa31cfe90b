pub mod System
pub mod Diagonals
pub mod Counts
pub mod Work
pub mod Edges
pub mod inner
