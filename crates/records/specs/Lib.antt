pub mod Record
pub mod Facts
pub mod RecordLaws
pub mod At
pub mod Kinds
