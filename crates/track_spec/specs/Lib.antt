pub mod Track
pub mod Depends
pub mod ZeroKid
