pub mod Serve
pub mod ReadLaws
pub mod ServeLaws
pub mod SealLaws
pub mod SlotLaws
pub mod KeptLent
pub mod KeptLentLaws
