pub mod Documents
pub mod Queries
pub mod Placing
pub mod Inside
pub mod Laws
