pub mod Runs
pub mod Ends
pub mod Looks
pub mod Shares
