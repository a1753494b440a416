pub mod TableLaws
pub mod TwinLaws
pub mod GrowLaws
pub mod EndsDecideLaws
pub mod EndsLaws
pub mod EndsCountLaws
pub mod LayoutLaws
