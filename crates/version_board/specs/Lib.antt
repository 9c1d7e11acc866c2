pub mod Logs
pub mod Ranked
pub mod Core
