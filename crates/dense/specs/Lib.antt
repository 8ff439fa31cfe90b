pub mod Rows
pub mod Matrix
pub mod Dense
pub mod inner
