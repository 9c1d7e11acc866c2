pub mod Pairs
pub mod Places
pub mod Covers
pub mod Steps
