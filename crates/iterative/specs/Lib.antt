pub mod Problem
pub mod Method
pub mod Reduced
pub mod Opening
pub mod Accepted
pub mod CameraSums
pub mod inner
