-- Inner vocabulary: what the functions behind the entry point require and ensure. Its contract does not name it.
pub mod Steps
