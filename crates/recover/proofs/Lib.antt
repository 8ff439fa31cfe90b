pub mod Cameras
pub mod Rows
pub mod Points
pub mod Stores
pub mod Rescaling
pub mod Entries
pub mod Edges
