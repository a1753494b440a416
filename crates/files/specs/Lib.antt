pub mod File
pub mod Listing
pub mod Contents
pub mod Planner
pub mod FileLaws
pub mod JobPart
pub mod JobPartLaws
