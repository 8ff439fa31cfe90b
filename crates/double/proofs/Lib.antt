-- Laws of doubles, which every crate above cites, and what the proofs of more than one function use.
pub mod Truth
pub mod Finite
pub mod Grid
pub mod Order
pub mod Less
pub mod Below
pub mod Whole
pub mod Sorts
