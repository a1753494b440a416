pub mod BytesLaws
pub mod StagesLaws
pub mod ShownLaws
pub mod Plan
pub mod Ready
pub mod PlanLaws
