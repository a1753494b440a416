pub mod TurnsLaws
pub mod SettlesLaws
pub mod SealsLaws
