pub mod Codes
pub mod Fields
pub mod Checking
pub mod RoundTrip
pub mod Storing
pub mod Depends
pub mod ZeroKid
