pub mod Alters
pub mod Lends
