pub mod Documents
pub mod Store
pub mod Buckets
pub mod Inside
