-- Inner vocabulary: what the operator's functions require of the work buffer and leave there. No entry point's contract names it.
pub mod Applied
