pub mod Cases
pub mod CallLaws
pub mod UnmarkedLaws
pub mod PublicLaws
pub mod ShutOutLaws
pub mod MetLaws
