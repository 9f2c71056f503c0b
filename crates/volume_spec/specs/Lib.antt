pub mod Volume
pub mod Additions
pub mod Disposal
pub mod Numbers
