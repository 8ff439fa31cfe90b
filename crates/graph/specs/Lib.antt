pub mod Walk
pub mod Joined
pub mod Distinct
pub mod Outcome
pub mod Edges
pub mod inner
