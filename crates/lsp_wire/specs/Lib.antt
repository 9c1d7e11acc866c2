pub mod Uris
pub mod Members
pub mod Messages
pub mod Replies
