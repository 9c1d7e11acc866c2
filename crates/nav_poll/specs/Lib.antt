pub mod Links
pub mod MemLinks
pub mod Polling
pub mod Scripts
pub mod Turns
