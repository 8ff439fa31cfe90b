pub mod Routes
pub mod Solved
pub mod Diagonals
pub mod inner
