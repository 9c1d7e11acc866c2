pub mod Inputs
pub mod Laws
pub mod Ends
pub mod Reached
pub mod Turns
pub mod Serving
