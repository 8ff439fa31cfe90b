pub mod Indices
pub mod Changes
pub mod Steps
pub mod Placing
pub mod Solving
pub mod Edges
