pub mod Stream
pub mod inner
