pub mod Cuts
pub mod Lists
pub mod Sources
pub mod Plain
pub mod Laws
pub mod Joined
pub mod Paths
pub mod Held
