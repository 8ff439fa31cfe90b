-- Inner vocabulary: what the functions behind an entry point require, and how they store the scales. No entry point's contract names it.
pub mod Reads
pub mod Order
