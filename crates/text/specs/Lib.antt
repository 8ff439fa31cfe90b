pub mod Text
pub mod Lent
pub mod inner
