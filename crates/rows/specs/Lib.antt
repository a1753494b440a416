pub mod Rows
pub mod Laid
pub mod Guards
pub mod GuardsLaws
pub mod ListsLaws
pub mod Lists
pub mod Lent
