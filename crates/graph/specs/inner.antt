-- Inner vocabulary: what the functions behind an entry point require and ensure. No entry point's contract names it.
pub mod Forest
