pub mod Editing
pub mod Replies
pub mod Transcripts
pub mod Serving
pub mod Laws
pub mod Held
pub mod Turns
