pub mod Examples
pub mod Modes
pub mod Undone
