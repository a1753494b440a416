pub mod Good
pub mod BlankLaws
pub mod BuiltLaws
pub mod FilesLaws
pub mod ActionLaws
pub mod KeptLaws
pub mod SizeLaws
