pub mod Drain
pub mod Sift
pub mod Steps
pub mod SiftLaws
