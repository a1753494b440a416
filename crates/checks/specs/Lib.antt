pub mod Refusal
pub mod Checks
pub mod CheckLaws
pub mod Next
