pub mod Terms
pub mod TermsLaws
pub mod SumLaws
pub mod Keys
pub mod KeysLaws
pub mod LoopLaws
pub mod RowLaws
