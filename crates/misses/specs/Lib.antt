pub mod Misses
pub mod MissesLaws
