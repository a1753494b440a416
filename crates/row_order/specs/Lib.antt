pub mod Held
pub mod HeldLaws
pub mod Merge
pub mod MergeLaws
pub mod SortLaws
