pub mod Counter
pub mod Strings
pub mod Streamed
pub mod Chained
pub mod Undone
