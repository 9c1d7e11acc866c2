pub mod Members
pub mod Apart
pub mod Places
pub mod Sets
pub mod Laws
