pub mod Cholesky
pub mod inner
