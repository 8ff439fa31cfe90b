pub mod Case
pub mod Digits
pub mod Puts
pub mod Lines
