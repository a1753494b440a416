pub mod Links
pub mod Neighbours
