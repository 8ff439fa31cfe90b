pub mod OperatorLaws
pub mod Buffered
pub mod Passes
pub mod Sights
