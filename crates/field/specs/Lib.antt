pub mod Vec
pub mod Count
pub mod Buffer
