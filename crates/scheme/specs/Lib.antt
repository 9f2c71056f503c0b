pub mod Layout
pub mod Examples
pub mod WholeSample
pub mod Machine
pub mod Held
pub mod Part
pub mod Counters
pub mod Walk
