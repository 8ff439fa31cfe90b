-- Inner vocabulary: what the functions behind an entry point require of the work buffer and leave there. No entry point's contract names it.
pub mod Held
