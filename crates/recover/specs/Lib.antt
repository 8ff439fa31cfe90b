pub mod Recover
pub mod Part
pub mod Calls
pub mod Edges
pub mod inner
