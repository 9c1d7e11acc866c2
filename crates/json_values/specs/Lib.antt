pub mod Text
pub mod Checks
pub mod Numbers
pub mod Lists
pub mod Members
