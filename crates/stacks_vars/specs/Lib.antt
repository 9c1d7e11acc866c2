pub mod Enter
pub mod Head
pub mod Same
