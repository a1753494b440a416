pub mod WordsLaws
pub mod OrderLaws
pub mod LinksLaws
pub mod ChainLaws
pub mod NeighboursLaws
