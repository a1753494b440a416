pub mod Phase
pub mod PhaseLaws
pub mod JobLaws
