pub mod HoldsLaws
pub mod WeightsLaws
pub mod GoesLaws
pub mod Lent
