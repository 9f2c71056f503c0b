pub mod Field
pub mod State
pub mod Cipher
pub mod KeyExpansion
pub mod InvCipher
pub mod Table
