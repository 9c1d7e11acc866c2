pub mod Ranks
pub mod Shadow
