pub mod Issuer
pub mod Grants
pub mod Archive
pub mod Depends
pub mod Numbers
