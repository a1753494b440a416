pub mod MarksLaws
pub mod StayLaws
