pub mod LentEnd
pub mod Progress
pub mod Depends
