pub mod Granting
pub mod Order
pub mod Starting
pub mod NeverTwice
pub mod Archive
pub mod Depends
pub mod Examples
pub mod Numbers
