pub mod Routing
pub mod Placing
pub mod Diagonals
