-- Laws that belong to no one function.
pub mod Walks
pub mod Forests
pub mod Spanning
pub mod Counts
pub mod Outcomes
pub mod Unique
pub mod Edges
