pub mod Stream
pub mod Demand3
pub mod Depends
pub mod WholeBlocks
pub mod ZeroKid
pub mod Samples
pub mod Numbers
