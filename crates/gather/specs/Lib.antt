pub mod JoinLaws
pub mod RawLaws
pub mod TakenLaws
pub mod Lent
