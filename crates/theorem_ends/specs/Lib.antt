pub mod LeftLaws
pub mod RoomsLaws
pub mod KeepsLaws
pub mod TurnsLaws
pub mod Sound
