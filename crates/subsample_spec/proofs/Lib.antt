pub mod Counting
pub mod Tables
pub mod Reading
pub mod Depends
