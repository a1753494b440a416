pub mod GoesLaws
pub mod WeightsLaws
pub mod ServedLaws
pub mod LentLaws
pub mod FilesLaws
pub mod GatheredLaws
