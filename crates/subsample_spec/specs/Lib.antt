pub mod Auxiliary
pub mod Depends
