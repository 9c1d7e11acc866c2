pub mod Connections
pub mod Doors
pub mod Houses
pub mod Inside
