pub mod Verdicts
pub mod Sections
pub mod PointLists
pub mod Marking
pub mod Sound
pub mod Computing
