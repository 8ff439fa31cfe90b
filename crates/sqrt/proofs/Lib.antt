-- The theorems on `root`, which callers may cite, and what the proofs of more than one function use.
pub mod Floor
pub mod Certificate
pub mod Closest
pub mod Meaning
pub mod Examples
mod Bracket
mod Patterns
mod Parted
mod Joined
mod Signs
