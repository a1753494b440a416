pub mod Notice
pub mod NoticeLaws
