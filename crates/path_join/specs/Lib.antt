pub mod Joins
pub mod Joining
pub mod Tables
pub mod Units
pub mod Extended
pub mod Extending
pub mod Plain
