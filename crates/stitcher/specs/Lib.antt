pub mod Answers
pub mod Ends
pub mod Found
pub mod Joins
pub mod Laws
pub mod Opens
pub mod Plain
pub mod Trail
