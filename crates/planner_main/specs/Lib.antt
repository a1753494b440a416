pub mod Reads
pub mod ReadsLaws
