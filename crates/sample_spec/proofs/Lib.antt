pub mod Tables
pub mod Accepted
pub mod Counters
pub mod RoundTrip
pub mod ZeroKid
pub mod Depends
pub mod WholeBlocks
pub mod Examples
