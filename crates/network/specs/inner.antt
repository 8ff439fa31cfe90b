-- Inner vocabulary: what the functions behind an entry point require. No entry point's contract names it.
pub mod Marks
pub mod Sound
