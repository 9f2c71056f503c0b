pub mod Ecb
