pub mod Raw
pub mod RawLaws
pub mod Tree
pub mod Placed
pub mod PlacedLaws
pub mod TreeLaws
pub mod Lent
