pub mod ScanLaws
pub mod RowLaws
