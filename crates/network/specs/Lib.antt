pub mod Network
pub mod Lists
pub mod Refusals
pub mod inner
