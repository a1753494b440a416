pub mod AreaLaws
pub mod LeastLaws
