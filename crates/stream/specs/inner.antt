-- Inner vocabulary: what the functions behind the entry points require and ensure. Their contracts do not name it.
pub mod Steps
