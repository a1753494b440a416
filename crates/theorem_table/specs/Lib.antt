pub mod Table
pub mod OrderLaws
pub mod Cases
pub mod Ends
pub mod Judged
pub mod JudgedLaws
