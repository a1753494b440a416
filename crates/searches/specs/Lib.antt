pub mod ChoiceLaws
pub mod RowLaws
pub mod Search
pub mod SearchStepsLaws
pub mod Shape
pub mod SumsLaws
pub mod ZerosLaws
