pub mod Serves
pub mod KeepingLaws
pub mod TurnLaws
pub mod SettlingLaws
pub mod Tries
pub mod TryLaws
pub mod SiftingLaws
pub mod BeginsLaws
