pub mod Lines
pub mod Units
