pub mod Operator
pub mod inner
