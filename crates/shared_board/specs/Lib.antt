pub mod Books
pub mod Seats
pub mod Bodies
pub mod Commits
pub mod Desks
pub mod Tied
