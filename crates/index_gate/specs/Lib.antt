pub mod Limits
pub mod Graphs
pub mod Indexed
pub mod Reading
pub mod Ahead
