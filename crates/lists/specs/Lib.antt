pub mod PointLists
pub mod inner
