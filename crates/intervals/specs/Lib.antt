pub mod Residual
pub mod Shape
pub mod CheckLaws
pub mod FitsLaws
pub mod IntervalLaws
pub mod SuffixLaws
pub mod ResidualLaws
pub mod SumsLaws
