pub mod Blocks
pub mod Frames
pub mod Reading
pub mod Inside
