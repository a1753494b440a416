pub mod Lines
pub mod LinesLaws
pub mod Shows
pub mod ShowsLaws
pub mod ListLaws
