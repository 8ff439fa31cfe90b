-- Inner vocabulary: what the functions of the solve require of the work buffer, make of it and keep. No entry point's contract names it.
pub mod Solver
