pub mod Place
pub mod PlaceLaws
pub mod Lent
