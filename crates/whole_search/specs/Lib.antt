pub mod Answers
pub mod Walk
pub mod Open
pub mod Ends
pub mod Leads
pub mod Query
pub mod Refusals
