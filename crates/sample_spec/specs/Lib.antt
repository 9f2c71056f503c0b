pub mod Sample
pub mod Counters
pub mod Depends
pub mod WholeBlocks
pub mod ZeroKid
